use Rattle.std.proofs.Common.{◌++◌, codes, flat_map}
use Rattle.std.specs.Fmt.{HasWrittenStyled, IsFlush}
use Rattle.std.specs.Str.{encode_utf8_all}
use Rattle.graphql_syntax.specs.trees.ValueText.{unit_for}
use Rattle.graphql_syntax.proofs.value.text.write_string.Given as goal

abbrev pub invariant-loop-c : goal.invariant-loop-c
invariant-loop-c g l =
    IsFlush l.fn.f → HasWrittenStyled g.W.Write.write_str_gives l.fn.f (codes "\"" ++ encode_utf8_all (flat_map unit_for l.yielded)) l.f
