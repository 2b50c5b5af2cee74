use Rattle.graphql_json.proofs.Steps.{next}
use Rattle.graphql_json.proofs.sheet.Sheet.begin_described.Goals as goal

pub returns : goal.returns
returns g c = next (next c.in_ok-begin.ensures c.in_ok-optional.ensures) c.node.ensures
