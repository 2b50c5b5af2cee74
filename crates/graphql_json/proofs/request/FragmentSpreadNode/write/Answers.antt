use Rattle.graphql_json.proofs.Steps.{next, whole_node}
use Rattle.graphql_json.proofs.request.FragmentSpreadNode.write.Goals as goal

pub returns : goal.returns
returns c = whole_node _ _ _ c.in_ok-begin.ensures (next c.in_ok-node.ensures c.last.ensures)
