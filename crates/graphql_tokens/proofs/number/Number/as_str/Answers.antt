use Rattle.graphql_tokens.proofs.Numerals.{is_numeral-is}
use Rattle.graphql_tokens.proofs.number.Number.as_str.Goals as goal

pub returns-clause-literal : goal.returns-clause-literal
returns-clause-literal c = rw c.as_str.ensures ((is_numeral-is _).0 c.self.invariant)
