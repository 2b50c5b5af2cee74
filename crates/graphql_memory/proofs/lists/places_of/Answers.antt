use Rattle.std.proofs.Common.{arith, sym, ◌∙◌}
use Rattle.graphql_memory.proofs.Costs.{in_place, spilled}
use Rattle.graphql_memory.proofs.lists.places_of.Goals as goal

pub returns-then-capacity-clause-places : goal.returns-then-capacity-clause-places
returns-then-capacity-clause-places g c = c.capacity-capacity.ensures.value ∙ sym (spilled g.row.N c.args.list.now (omega arith))

pub returns-else-capacity-clause-places : goal.returns-else-capacity-clause-places
returns-else-capacity-clause-places g c = sym (in_place g.row.N c.args.list.now (omega arith))
