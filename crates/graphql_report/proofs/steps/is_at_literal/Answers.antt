use Rattle.std.proofs.Common.{ap, ◌∙◌}
use Rattle.graphql_tokens.specs.tokens.Token.{Token}
use Rattle.std.proofs.Common.{◌||◌}
use Rattle.graphql_reading.specs.grammar.Tests.{any_number, any_string, any_block}
use Rattle.graphql_report.proofs.TokenPhrases.{tells-literal}
use Rattle.graphql_report.proofs.steps.is_at_literal.Goals as goal

pub returns : goal.returns
returns c = λ limits. tells-literal limits c.args.parser.now.hand.bare c.hand-token.ensures.proper c.is_literal.result (c.is_literal.ensures ∙ ap (λ (t : Token). any_number t.bare || any_string t.bare || any_block t.bare) c.hand-token.ensures.token)
