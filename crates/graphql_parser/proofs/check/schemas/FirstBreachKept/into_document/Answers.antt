use Rattle.std.proofs.Common.{Err, refl, sym, ◌∙◌}
use Rattle.graphql_parser.proofs.SchemaBreaches.{none-told, first-told, no-memory-told}
use Rattle.graphql_parser.proofs.check.schemas.FirstBreachKept.into_document.Goals as goal

pub returns-in-None-clause-document : goal.returns-in-None-clause-document
returns-in-None-clause-document c ds h = none-told ds (sym h ∙ c.in-None.is)

pub returns-in-Some-clause-document : goal.returns-in-Some-clause-document
returns-in-Some-clause-document c ds h = rw c.in-Some.is (first-told ds c.in-Some.error (sym h ∙ c.in-Some.is))

pub returns-in-Some-clause-refused : goal.returns-in-Some-clause-refused
returns-in-Some-clause-refused c ds h = rw c.in-Some.is (no-memory-told ds c.in-Some.error (Err c.in-Some.error) (sym h ∙ c.in-Some.is) refl)
