use Rattle.std.proofs.Common.{ap}
use Rattle.graphql_json.proofs.Steps.{next, as_tokens, whole_node}
use Rattle.graphql_json.specs.inner.Written.{opening}
use Rattle.graphql_json.proofs.values.write_argument.Goals as goal

pub returns : goal.returns
returns g c =
    let opened = as_tokens (ap (λ place. opening _ place) c.at.ensures) c.in_ok-begin.ensures in
    whole_node _ _ _ opened (next c.in_ok-node.ensures (next c.in_ok-node-2.ensures c.close.ensures))
