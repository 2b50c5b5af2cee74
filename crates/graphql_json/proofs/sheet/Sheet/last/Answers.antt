use Rattle.graphql_json.proofs.Steps.{next}
use Rattle.graphql_json.proofs.sheet.Sheet.last.Goals as goal

pub returns : goal.returns
returns g c = next c.in_ok-nodes.ensures c.close.ensures
