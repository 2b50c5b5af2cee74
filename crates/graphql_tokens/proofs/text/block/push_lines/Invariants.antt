use Rattle.std.proofs.Common.{◌≡◌, ◌+◌, ◌-◌, ◌≤◌, ◌++◌, length, drop}
use Rattle.std.specs.String.{string_capacity}
use Rattle.std.specs.Prelude.{string_bytes}
use Rattle.std.specs.Str.{IsCharBoundary}
use Rattle.graphql_tokens.specs.tokens.BlockText.{lines_of}
use Rattle.graphql_tokens.specs.inner.Blocks.{written}
use Rattle.graphql_tokens.proofs.text.block.push_lines.Given as goal

abbrev pub invariant-lines : goal.invariant-lines
invariant-lines l = record {
  within : l.at ≤ length l.bytes;
  boundary : IsCharBoundary l.bytes l.at;
  room : length (string_bytes l.value) + (length l.bytes - l.at) ≤ string_capacity l.value;
  free : l.memory ≡ l.fn.memory;
  rest : string_bytes l.value ++ written l.here l.indent (lines_of (drop l.at l.bytes)) ≡ string_bytes l.fn.value ++ written l.first_indent l.indent (lines_of l.bytes);
}

abbrev pub decreases-lines : goal.decreases-lines
decreases-lines l = length l.bytes - l.at
