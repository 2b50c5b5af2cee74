use Rattle.graphql_json.proofs.Steps.{next}
use Rattle.graphql_json.proofs.schema.write_types.Goals as goal

pub returns : goal.returns
returns c = next c.in_ok-write_named_types.ensures c.close.ensures
