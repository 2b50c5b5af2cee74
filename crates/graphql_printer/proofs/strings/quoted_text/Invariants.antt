use Rattle.std.proofs.Common.{◌≡◌, ◌++◌, codes, flat_map, string_bytes}
use Rattle.std.specs.Str.{encode_utf8_all}
use Rattle.graphql_printer.specs.inner.Strings.{unit_for}
use Rattle.graphql_printer.proofs.strings.quoted_text.Given as goal

abbrev pub invariant-loop-c : goal.invariant-loop-c
invariant-loop-c l = string_bytes l.out ≡ codes "\"" ++ encode_utf8_all (flat_map unit_for l.yielded)
