use Rattle.std.proofs.Common.{ap}
use Rattle.graphql_json.proofs.Steps.{next, next_optional, as_tokens, whole_node}
use Rattle.graphql_json.specs.inner.Written.{opening}
use Rattle.graphql_json.proofs.schema.SchemaDefinitionNode.write.Goals as goal

pub returns : goal.returns
returns c =
    let opened = as_tokens (ap (λ kind. opening kind c.args.place) c.schema_word.ensures.kind) c.in_ok-begin.ensures in
    whole_node _ _ _ opened (next_optional _ _ _ _ c.in_ok-optional.ensures (next c.in_ok-nodes.ensures (next c.in_ok-write_roots.ensures c.close.ensures)))
