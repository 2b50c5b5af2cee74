use Rattle.std.proofs.Common.{◌≡◌, ◌≤◌, ◌-◌, ◌<◌, false, length, take, get_or}
use Rattle.std.specs.Prelude.{string_bytes}
use Rattle.std.specs.String.{string_capacity}
use Rattle.graphql_memory.specs.Memory.{Takes}
use Rattle.std.specs.Str.{chars, IsCharBoundary}
use Rattle.graphql_tokens.specs.tokens.Edition.{Current}
use Rattle.graphql_tokens.specs.tokens.Strings.{is_plain, StringMeans}
use Rattle.graphql_tokens.proofs.text.string_value_in.Given as goal

abbrev pub invariant-loop-at : goal.invariant-loop-at
invariant-loop-at l = record {
  means : StringMeans Current (chars (take l.at l.bytes)) (chars (string_bytes l.value));
  boundary : IsCharBoundary l.bytes l.at;
  fits : length (string_bytes l.value) ≤ l.at;
  within : l.at ≤ length l.bytes;
  room : length l.bytes ≤ string_capacity l.value;
  takes : Takes (length l.content) l.fn.memory l.memory;
  stops : l.at < length l.bytes → is_plain (get_or l.bytes l.at 0) ≡ false;
}

abbrev pub decreases-loop-at : goal.decreases-loop-at
decreases-loop-at l = length l.bytes - l.at
