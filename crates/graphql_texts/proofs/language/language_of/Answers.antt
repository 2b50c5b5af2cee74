use Rattle.std.proofs.Common.{◌≡◌, Some, sym, ◌∙◌}
use Rattle.graphql_tokens.specs.tokens.Seen.{seen}
use Rattle.graphql_tokens.specs.tokens.Token.{left}
use Rattle.graphql_report.specs.declared.fronts.Language.{Language}
use Rattle.graphql_texts.specs.checked.Language.{IsFurthest}
use Rattle.graphql_texts.specs.inner.Begun.{language_begun}
use Rattle.graphql_texts.proofs.Furthest.{furthest}
use Rattle.graphql_texts.proofs.language.language_of.Goals as goal
use Rattle.graphql_texts.proofs.language.language_of.Goals.{In-Some}

-- the language that the first token begins, if it begins one
of-first : (c : In-Some) (language : Language) → ((other : Language) → language_begun c.in-Some.first.kind c.in-Some.first.text.now ≡ Some other → other ≡ language) → IsFurthest language c.args.text.now
of-first c language begun = furthest language c.args.text.now (seen c.in-Some.first) (left c.next.new.self) (λ tokens cut. c.new-tokens.ensures.only tokens cut ∙ c.in-Some.ensures.steps.0) begun

pub returns-in-Some-begun_by : goal.returns-in-Some-begun_by
returns-in-Some-begun_by c = of-first (goal.at.returns-in-Some-begun_by c).In-Some c.in-Some-begun_by.language (λ other begun. let e : Some other ≡ Some c.in-Some-begun_by.language = sym (c.begun_by.ensures other begun) ∙ c.in-Some-begun_by.is in cc)

pub returns-in-Some-2 : goal.returns-in-Some-2
returns-in-Some-2 c = of-first (goal.at.returns-in-Some-2 c).In-Some c.in-Some-2.language (λ other begun. absurd (c.in_default-begun_by.not-Some other (c.begun_by.ensures other begun)))

pub returns : goal.returns
returns c = of-first (goal.at.returns c).In-Some c.unwrap_or.result (λ other begun. absurd (c.in_default-begun_by.not-Some other (c.begun_by.ensures other begun)))
