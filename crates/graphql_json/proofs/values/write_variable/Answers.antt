use Rattle.std.proofs.Common.{ap, codes}
use Rattle.graphql_json.proofs.Steps.{next, as_tokens, whole_node}
use Rattle.graphql_json.specs.inner.Written.{member_tokens}
use Rattle.graphql_json.specs.nodes.Values.{name_json}
use Rattle.graphql_json.proofs.values.write_variable.Goals as goal

pub returns : goal.returns
returns c =
    let named = as_tokens (ap (λ place. member_tokens (codes "name") (name_json place c.args.name.now)) c.nowhere.ensures) c.in_ok-write_name.ensures in
    whole_node _ _ _ c.in_ok-begin.ensures (next named c.close.ensures)
