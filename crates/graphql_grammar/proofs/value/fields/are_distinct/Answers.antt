use Rattle.std.proofs.Common.{sym, ◌∙◌}
use Rattle.graphql_grammar.proofs.Fields.{named-twice}
use Rattle.graphql_grammar.proofs.value.fields.are_distinct.Goals as goal

pub returns-then-eq : goal.returns-then-eq
returns-then-eq g c = named-twice c.loop-rest.rest.now _ c.loop-other.other-index c.field-item.result c.other-item.result c.in-len1-up.len_at_least c.field-item.is c.loop-other-test.true c.other-item.is c.if-eq.ensures.value ∙ sym c.loop-rest.invariant
