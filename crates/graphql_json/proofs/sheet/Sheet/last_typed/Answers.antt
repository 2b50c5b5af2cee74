use Rattle.graphql_json.proofs.Steps.{next, next_optional}
use Rattle.graphql_json.proofs.sheet.Sheet.last_typed.Goals as goal

pub returns : goal.returns
returns g c = next c.in_ok-node.ensures (next_optional _ _ _ _ c.in_ok-optional.ensures c.last.ensures)
