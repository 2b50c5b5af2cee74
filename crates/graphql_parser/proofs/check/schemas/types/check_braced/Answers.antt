use Rattle.std.proofs.Common.{not, ◌&&◌, sym, ap, ◌∙◌}
use Rattle.graphql_reading.specs.grammar.Tests.{punct}
use Rattle.graphql_reading.specs.reading.Outcome.{plus_at, between_at}
use Rattle.graphql_parser.proofs.Lines.{some-parts-go}
use Rattle.graphql_parser.proofs.check.schemas.types.check_braced.Goals as goal

pub returns-clause-checks : goal.returns-clause-checks
returns-clause-checks g c =
    some-parts-go c.check_maybe_bracketed.result c.args.extend c.args.limits (punct "{") c.args.parser.now c.check_const_directives.new.parser c.check_maybe_bracketed.new.parser
    (between_at (punct "{") (plus_at g.P.Phrase.first (g.P.Phrase.reader c.args.limits)) (punct "}"))
    (ap (λ b. c.args.extend && not b) (sym c.is_at_part.ensures) ∙ c.in_ok-expect_part.ensures) c.in_ok-check_const_directives.ensures.checks c.check_maybe_bracketed.ensures.checks
