use Rattle.std.proofs.Common.{◌∷◌, [], inr, refl, sym, ◌∙◌}
use Rattle.graphql_report.proofs.faults.after_sign.Goals as goal

pub returns-then-is_sign : goal.returns-then-is_sign
returns-then-is_sign c = (c.in-Some.c ∷ [], inr (c.in-Some.c, sym c.is_sign.ensures ∙ c.if-is_sign.true, refl), c.in-Some.ensures.cases)
