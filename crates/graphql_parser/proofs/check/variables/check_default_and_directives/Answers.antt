use Rattle.std.proofs.Common.{◌≡◌, ℕ, true, List, ◌∷◌, Some, sym, ◌∙◌}
use Rattle.graphql_tokens.specs.tokens.Token.{Token}
use Rattle.graphql_reading.specs.grammar.Tests.{punct}
use Rattle.graphql_reading.specs.reading.Ahead.{tokens}
use Rattle.graphql_grammar.specs.reading.Arguments.{directives_at, maybe_default_at}
use Rattle.graphql_requests.specs.reading.Variables.{default_and_directives_at}
use Rattle.graphql_parser.specs.Checked.{rest_of}
use Rattle.graphql_parser.proofs.Parts.{goes-as}
use Rattle.graphql_parser.proofs.Rests.{ended}
use Rattle.graphql_parser.proofs.Straight.{past}
use Rattle.graphql_parser.proofs.check.variables.check_default_and_directives.Goals as goal

default-first : (values : ℕ) (t : Token) (ts mid : List Token) → punct "=" t.bare ≡ true → rest_of (maybe_default_at values (t ∷ ts)) ≡ Some mid → ended (default_and_directives_at values (t ∷ ts)) ≡ ended (directives_at true values mid)
default-first values t ts mid e h = rw e (past (maybe_default_at values) (directives_at true values) (t ∷ ts) mid h)

pub returns-then-is_at_punct-clause-checks : goal.returns-then-is_at_punct-clause-checks
returns-then-is_at_punct-clause-checks c =
    goes-as c.check_directives.result c.args.parser.now c.check_maybe_default.new.parser c.check_directives.new.parser (default_and_directives_at c.args.limits.values) (directives_at true c.args.limits.values)
    (default-first c.args.limits.values c.args.parser.now.hand c.args.parser.now.after (tokens c.check_maybe_default.new.parser) (sym c.is_at_punct.ensures ∙ c.if-is_at_punct.true) c.in_ok-check_maybe_default.ensures.checks.0)
    c.in_ok-check_maybe_default.ensures.checks.1 c.check_directives.ensures.checks
