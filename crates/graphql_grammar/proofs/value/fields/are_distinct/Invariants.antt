use Rattle.std.proofs.Common.{◌≡◌, false, take, length}
use Rattle.std.specs.List.{list_any}
use Rattle.graphql_grammar.specs.grammar.Merged.{has_name}
use Rattle.graphql_grammar.specs.reading.Fields.{are_distinct as distinct}
use Rattle.graphql_grammar.proofs.value.fields.are_distinct.Given as goal

abbrev pub invariant-loop-rest : goal.invariant-loop-rest
invariant-loop-rest g l = distinct l.fn.fields ≡ distinct l.rest

abbrev pub invariant-loop-other : goal.invariant-loop-other
invariant-loop-other g l = list_any (has_name l.field.0) (take l.other-index l.others) ≡ false

abbrev pub decreases-loop-rest : goal.decreases-loop-rest
decreases-loop-rest g l = length l.rest
