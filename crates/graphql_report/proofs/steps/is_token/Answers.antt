use Rattle.std.proofs.Common.{sym, subst}
use Rattle.graphql_report.specs.declared.phrases.Phrase.{Phrase}
use Rattle.graphql_report.specs.inner.Left.{TellsToken}
use Rattle.graphql_report.proofs.steps.is_token.Goals as goal

pub returns-in-Location : goal.returns-in-Location
returns-in-Location c = λ limits. subst (λ (p : Phrase). TellsToken limits p c.args.parser.now.hand.bare c.is_at_location.result) (sym c.in-Location.is) (c.is_at_location.ensures limits)

pub returns-in-Text : goal.returns-in-Text
returns-in-Text c = λ limits. subst (λ (p : Phrase). TellsToken limits p c.args.parser.now.hand.bare c.is_at_text.result) (sym c.in-Text.is) (c.is_at_text.ensures limits)

pub returns-in-Literal : goal.returns-in-Literal
returns-in-Literal c = λ limits. subst (λ (p : Phrase). TellsToken limits p c.args.parser.now.hand.bare c.is_at_literal.result) (sym c.in-Literal.is) (c.is_at_literal.ensures limits)
