use Rattle.std.proofs.Common.{◌++◌, ap, codes}
use Rattle.graphql_parser.specs.trees.SchemaViews.{type_definition_tree}
use Rattle.graphql_json.proofs.Steps.{next, next_optional, as_tokens, whole_described}
use Rattle.graphql_json.specs.inner.Written.{opening, member_tokens, optional_tokens}
use Rattle.graphql_json.specs.nodes.Nodes.{placed_json}
use Rattle.graphql_json.specs.nodes.Values.{name_json, string_json}
use Rattle.graphql_json.proofs.schema.TypeDefinitionNode.write.Goals as goal

pub returns : goal.returns
returns c =
    let place = c.args.place in
    let type = type_definition_tree c.args.self.now in
    let described = optional_tokens (codes "description") (placed_json string_json place) type.description in
    let named = member_tokens (codes "name") (placed_json name_json place type.name) in
    let opened = as_tokens (ap (λ kind. opening kind place ++ described ++ named) c.kind_word-kind.ensures.kind) c.in_ok-begin_described.ensures in
    whole_described _ _ _ _ _ _ opened (next_optional _ _ _ _ c.in_ok-write_interfaces.ensures (next c.in_ok-nodes.ensures c.write_contents.ensures))
