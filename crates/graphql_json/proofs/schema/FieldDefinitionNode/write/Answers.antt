use Rattle.graphql_json.proofs.Steps.{next, whole_described}
use Rattle.graphql_json.proofs.schema.FieldDefinitionNode.write.Goals as goal

pub returns : goal.returns
returns c = whole_described _ _ _ _ _ _ c.in_ok-begin_described.ensures (next c.in_ok-nodes.ensures (next c.in_ok-node.ensures c.last.ensures))
