use Rattle.std.proofs.Common.{ℕ, List, ap, ◌∙◌}
use Rattle.std.specs.Str.{chars}
use Rattle.graphql_tokens.specs.tokens.Place.{place_after}
use Rattle.graphql_report.proofs.ReportParts.{place-in}
use Rattle.graphql_report.proofs.findings.place_of.Goals as goal

pub returns-clause-inside : goal.returns-clause-inside
returns-clause-inside c = place-in c.args.text.now c.before-2.result.now c.before-2.ensures.begins.0 c.end_of.result c.before-2.utf8 c.before-2.ensures.begins.1 c.end_of.ensures

pub returns-clause-place : goal.returns-clause-place
returns-clause-place c boundary = c.end_of.ensures ∙ ap (λ (l : List ℕ). place_after (chars l)) (c.before-2.ensures.front boundary)
