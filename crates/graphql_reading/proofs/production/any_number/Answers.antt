use Rattle.std.proofs.Common.{sym, ◌∙◌}
use Rattle.graphql_reading.specs.reading.Given.{trees_in}
use Rattle.graphql_reading.proofs.Loops.{any-number, none-there}
use Rattle.graphql_reading.proofs.production.any_number.Goals as goal

pub returns-then-not-is_next-clause-gives : goal.returns-then-not-is_next-clause-gives
returns-then-not-is_next-clause-gives g c = rw c.empty_list.ensures.items (none-there g.P.Production.first (g.P.Production.reader c.args.limits) c.args.parser.now (sym c.is_next.ensures ∙ c.if-not-is_next.true))

pub returns-clause-gives : goal.returns-clause-gives
returns-clause-gives g c = any-number (trees_in g.P.Production.tree) c.one_or_more.result g.P.Production.first (g.P.Production.reader c.args.limits) c.args.parser.now c.one_or_more.new.parser c.requires.takes (sym c.is_next.ensures ∙ c.if-not-is_next.false) c.one_or_more.ensures.gives
