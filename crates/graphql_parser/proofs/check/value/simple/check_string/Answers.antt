use Rattle.std.proofs.Common.{List, sym, ap, ◌∙◌, Some, arith}
use Rattle.graphql_tokens.specs.tokens.Token.{Token}
use Rattle.graphql_parser.proofs.Strings.{string-here}
use Rattle.graphql_parser.proofs.check.value.simple.check_string.Goals as goal

pub returns-clause-checks : goal.returns-clause-checks
returns-clause-checks c = (
  string-here c.hand-token.result c.args.parser.now.hand c.args.parser.now.after c.hand-token.ensures.token (sym c.is_string.ensures ∙ c.if-not-is_string.false) c.hand-token.ensures.proper
      ∙ ap (λ (l : List Token). Some l) (sym c.advance.ensures.left),
  (c.advance.ensures.source, omega (arith, c.advance.ensures.taken)),
)
