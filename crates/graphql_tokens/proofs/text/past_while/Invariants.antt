use Rattle.std.proofs.Common.{◌≡◌, ℕ, Bool, ◌+◌, ◌-◌, ◌<◌, ◌≤◌, length, drop}
use Rattle.std.specs.List.{prefix_len}
use Rattle.graphql_tokens.proofs.text.past_while.Given as goal

abbrev pub invariant-loop-at : goal.invariant-loop-at
invariant-loop-at g l =
    ((p : ℕ → Bool) → ((b : ℕ) (r : Bool) → b < 256 → goal.F-post g l.test b r → r ≡ p b) → l.at + prefix_len p (drop l.at l.bytes) ≡ l.start + prefix_len p (drop l.start l.bytes))
    × (l.at ≤ length l.bytes)

abbrev pub decreases-loop-at : goal.decreases-loop-at
decreases-loop-at g l = length l.bytes - l.at
