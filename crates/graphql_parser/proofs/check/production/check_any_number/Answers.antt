use Rattle.std.proofs.Common.{sym, ap, ◌∙◌}
use Rattle.graphql_reading.proofs.Loop.{many-plus, many-stops}
use Rattle.graphql_reading.specs.reading.Outcome.{many_at, plus_at}
use Rattle.graphql_reading.proofs.Loops.{stays}
use Rattle.graphql_parser.specs.Checked.{rest_of}
use Rattle.graphql_parser.proofs.Loops.{there}
use Rattle.graphql_parser.proofs.check.production.check_any_number.Goals as goal

pub returns-then-not-is_next-clause-checks : goal.returns-then-not-is_next-clause-checks
returns-then-not-is_next-clause-checks g c = (ap rest_of (many-stops g.P.Phrase.first (g.P.Phrase.reader c.args.limits) c.args.parser.now.hand c.args.parser.now.after (sym c.is_next.ensures ∙ c.if-not-is_next.true)), stays c.args.parser.now)

pub returns-clause-checks : goal.returns-clause-checks
returns-clause-checks g c = there c.check_one_or_more.result c.args.parser.now c.check_one_or_more.new.parser (plus_at g.P.Phrase.first (g.P.Phrase.reader c.args.limits)) (many_at g.P.Phrase.first (g.P.Phrase.reader c.args.limits)) (sym (many-plus g.P.Phrase.first (g.P.Phrase.reader c.args.limits) c.requires c.args.parser.now.hand c.args.parser.now.after (sym c.is_next.ensures ∙ c.if-not-is_next.false))) c.check_one_or_more.ensures.checks
