use Rattle.graphql_json.proofs.Steps.{whole_described}
use Rattle.graphql_json.proofs.schema.EnumValueDefinitionNode.write.Goals as goal

pub returns : goal.returns
returns c = whole_described _ _ _ _ _ _ c.in_ok-begin_described.ensures c.last.ensures
