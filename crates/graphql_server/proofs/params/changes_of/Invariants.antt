use Rattle.std.proofs.Common.{take}
use Rattle.json.specs.Value.{items_view}
use Rattle.graphql_server.specs.Members.{AreItems}
use Rattle.graphql_server.proofs.params.changes_of.Given as goal

abbrev pub invariant-loop-index : goal.invariant-loop-index
invariant-loop-index l = AreItems (items_view (take l.index l.items)) l.changes.items
