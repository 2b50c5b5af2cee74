use Rattle.std.proofs.Common.{◌≡◌, ◌+◌, ◌-◌, ◌≤◌, length, drop}
use Rattle.std.specs.List.{prefix_len}
use Rattle.graphql_tokens.proofs.text.runs.past_run.Given as goal

abbrev pub invariant-loop-at : goal.invariant-loop-at
invariant-loop-at g l =
    (l.at + prefix_len g.C.ByteClass.has (drop l.at l.bytes) ≡ l.start + prefix_len g.C.ByteClass.has (drop l.start l.bytes)) × (l.at ≤ length l.bytes) × (l.start ≤ l.at)

abbrev pub decreases-loop-at : goal.decreases-loop-at
decreases-loop-at g l = length l.bytes - l.at
