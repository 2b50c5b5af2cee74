use Rattle.std.proofs.Common.{◌≡◌, ◌≢◌, ◌-◌, ◌≤◌, true, length, drop}
use Rattle.std.specs.Str.{IsCharBoundary}
use Rattle.graphql_tokens.specs.tokens.BlockText.{lines_of, is_blank, from_text}
use Rattle.graphql_tokens.specs.inner.Blocks.{first_line}
use Rattle.graphql_tokens.proofs.text.block.first_text.Given as goal

abbrev pub invariant-loop-start : goal.invariant-loop-start
invariant-loop-start l = record {
  within : l.start ≤ length l.bytes;
  boundary : IsCharBoundary l.bytes l.start;
  lines : from_text (lines_of l.bytes) ≡ from_text (lines_of (drop l.start l.bytes));
  before : l.start ≢ 0 → is_blank (first_line (lines_of l.bytes)) ≡ true;
}

abbrev pub decreases-loop-start : goal.decreases-loop-start
decreases-loop-start l = length l.bytes - l.start
