use Rattle.std.proofs.Common.{arith, inl, inr}
use Rattle.graphql_parser.specs.answers.Memory.{most_taken}
use Rattle.graphql_parser_c.proofs.documents.ServiceDocumentDocument.check.Goals as goal

pub returns-clause-spent : goal.returns-clause-spent
unfolding most_taken
returns-clause-spent c = (
  c.check_schema_within.ensures.lent,
  omega (arith, c.check_schema_within.ensures.taken),
  λ denied. elim (c.check_schema_within.ensures.refused denied) [
    | inl h ↦ inl h
    | inr h ↦ inr (omega (arith, h))
  ],
)
