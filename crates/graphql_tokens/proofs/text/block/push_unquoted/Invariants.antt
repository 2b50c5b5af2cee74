use Rattle.std.proofs.Common.{◌≡◌, ◌≤◌, ◌+◌, ◌-◌, ◌++◌, length, drop}
use Rattle.std.specs.String.{string_capacity}
use Rattle.std.specs.Prelude.{string_bytes}
use Rattle.std.specs.Str.{IsCharBoundary}
use Rattle.graphql_tokens.specs.tokens.BlockText.{unquoted}
use Rattle.graphql_tokens.proofs.text.block.push_unquoted.Given as goal

abbrev pub invariant-loop-at : goal.invariant-loop-at
invariant-loop-at l = record {
  written : string_bytes l.value ++ unquoted (drop l.at l.bytes) ≡ string_bytes l.fn.value ++ unquoted l.bytes;
  boundary : IsCharBoundary l.bytes l.at;
  room : length (string_bytes l.value) + (length l.bytes - l.at) ≤ string_capacity l.value;
  capacity : string_capacity l.fn.value ≤ string_capacity l.value;
  free : l.memory ≡ l.fn.memory;
}

abbrev pub decreases-loop-at : goal.decreases-loop-at
decreases-loop-at l = length l.bytes - l.at
