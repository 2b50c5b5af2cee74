use Rattle.graphql_json.proofs.Steps.{next, whole_node}
use Rattle.graphql_json.proofs.request.VariableDefinitionNode.write.Goals as goal

pub returns : goal.returns
returns c = whole_node _ _ _ c.in_ok-begin.ensures (next c.in_ok-key.ensures (next c.in_ok-write_variable.ensures c.last_typed.ensures))
