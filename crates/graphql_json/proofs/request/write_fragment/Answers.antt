use Rattle.std.proofs.Common.{ap, codes}
use Rattle.graphql_json.proofs.Steps.{next, as_tokens, whole_node}
use Rattle.graphql_json.specs.inner.Written.{member_tokens, opening}
use Rattle.graphql_json.specs.nodes.Values.{name_json}
use Rattle.graphql_json.proofs.request.write_fragment.Goals as goal

pub returns : goal.returns
returns c =
    let opened = as_tokens (ap (λ place. opening _ place) c.at.ensures) c.in_ok-begin.ensures in
    let named = as_tokens (ap (λ place. member_tokens (codes "name") (name_json place c.args.name.now)) c.nowhere.ensures) c.in_ok-write_name.ensures in
    whole_node _ _ _ opened (next named (next c.in_ok-node.ensures (next c.in_ok-nodes.ensures (next c.in_ok-write_set.ensures c.close.ensures))))
