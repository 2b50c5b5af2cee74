use Rattle.std.proofs.Common.{◌≡◌, ◌≤◌, ◌<◌, ℕ, true, length, get_or}
use Rattle.graphql_tokens.specs.inner.Blocks.{is_space}
use Rattle.graphql_tokens.proofs.text.block.last_text.Given as goal

abbrev pub invariant-loop-end : goal.invariant-loop-end
invariant-loop-end l = record {
  within : l.end ≤ length l.bytes;
  spaces : (k : ℕ) → l.end ≤ k → k < length l.bytes → is_space (get_or l.bytes k 0) ≡ true;
}

abbrev pub decreases-loop-end : goal.decreases-loop-end
decreases-loop-end l = l.end
