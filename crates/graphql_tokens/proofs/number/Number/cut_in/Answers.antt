use Rattle.std.proofs.Common.{IsTrue, sym, subst}
use Rattle.graphql_tokens.specs.inner.Numerals.{is_numeral}
use Rattle.graphql_tokens.proofs.Numerals.{is_numeral-is}
use Rattle.graphql_tokens.proofs.number.Number.cut_in.Goals as goal

pub invariant_of-result : goal.invariant_of-result
invariant_of-result c = subst (λ text. IsTrue (is_numeral text)) (sym c.in_ok-new_within.ensures.text) ((is_numeral-is c.args.literal.now).1 c.requires.literal)
