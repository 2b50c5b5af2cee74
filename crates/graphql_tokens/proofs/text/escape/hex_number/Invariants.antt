use Rattle.std.proofs.Common.{◌≡◌, true, min, take}
use Rattle.std.specs.Char.{is_ascii_hexdigit}
use Rattle.std.specs.List.{list_all}
use Rattle.graphql_tokens.specs.tokens.Strings.{hex_value}
use Rattle.graphql_tokens.proofs.text.escape.hex_number.Given as goal

abbrev pub invariant-loop-digit : goal.invariant-loop-digit
invariant-loop-digit l = record {
  digits : list_all is_ascii_hexdigit (take l.digit-index l.digits) ≡ true;
  value : l.number ≡ min (hex_value (take l.digit-index l.digits)) 0x110000;
}
