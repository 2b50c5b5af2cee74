use Rattle.graphql_json.proofs.Steps.{next, whole_node}
use Rattle.graphql_json.proofs.values.write_named_type.Goals as goal

pub returns : goal.returns
returns c = whole_node _ _ _ c.in_ok-begin.ensures (next c.in_ok-write_name.ensures c.close.ensures)
