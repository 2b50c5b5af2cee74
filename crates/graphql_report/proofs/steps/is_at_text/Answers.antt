use Rattle.std.proofs.Common.{ap, ◌∙◌}
use Rattle.graphql_tokens.specs.tokens.Token.{Token}
use Rattle.graphql_schemas.specs.reading.Descriptions.{is_text}
use Rattle.graphql_report.proofs.TokenPhrases.{tells-text}
use Rattle.graphql_report.proofs.steps.is_at_text.Goals as goal

pub returns : goal.returns
returns c = λ limits. tells-text limits c.args.parser.now.hand.bare c.hand-token.ensures.proper c.is_string_of_any_kind.result (c.is_string_of_any_kind.ensures ∙ ap (λ (t : Token). is_text t.bare) c.hand-token.ensures.token)
