use Rattle.std.proofs.Common.{◌≡◌, ◌-◌, ◌≤◌, length, drop}
use Rattle.graphql_tokens.specs.tokens.BlockText.{lines_of, common_indent}
use Rattle.graphql_tokens.specs.inner.Blocks.{counted}
use Rattle.graphql_tokens.proofs.BlockIndents.{least_with, indents}
use Rattle.graphql_tokens.proofs.text.block.common_indent.Given as goal

abbrev pub invariant-lines : goal.invariant-lines
invariant-lines l = record {
  within : l.start ≤ length l.bytes;
  indent : least_with l.found (indents (counted l.counts (lines_of (drop l.start l.bytes)))) ≡ common_indent (counted l.counts_first (lines_of l.bytes));
}

abbrev pub decreases-lines : goal.decreases-lines
decreases-lines l = length l.bytes - l.start
