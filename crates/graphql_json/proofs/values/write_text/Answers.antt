use Rattle.graphql_json.proofs.Steps.{whole_node}
use Rattle.graphql_json.proofs.values.write_text.Goals as goal

pub returns : goal.returns
returns c = whole_node _ _ _ c.in_ok-begin.ensures c.last_text.ensures
