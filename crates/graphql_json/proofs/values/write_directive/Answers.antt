use Rattle.graphql_json.proofs.Steps.{next, whole_node}
use Rattle.graphql_json.proofs.values.write_directive.Goals as goal

pub returns : goal.returns
returns g c = whole_node _ _ _ c.in_ok-begin.ensures (next c.in_ok-node.ensures (next c.in_ok-write_arguments.ensures c.close.ensures))
