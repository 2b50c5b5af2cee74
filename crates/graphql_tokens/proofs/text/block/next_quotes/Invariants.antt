use Rattle.std.proofs.Common.{◌-◌, ◌≤◌, length}
use Rattle.graphql_tokens.specs.inner.Blocks.{IsUnquotedBetween}
use Rattle.graphql_tokens.proofs.text.block.next_quotes.Given as goal

abbrev pub invariant-loop-len : goal.invariant-loop-len
invariant-loop-len l = record {
  from : l.start ≤ l.at;
  within : l.at ≤ length l.bytes;
  none : IsUnquotedBetween l.bytes l.start l.at;
}

abbrev pub decreases-loop-len : goal.decreases-loop-len
decreases-loop-len l = length l.bytes - l.at
