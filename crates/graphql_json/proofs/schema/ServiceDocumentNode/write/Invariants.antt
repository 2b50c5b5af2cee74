use Rattle.std.proofs.Common.{◌≡◌, ◌++◌, drop, map}
use Rattle.graphql_parser.specs.trees.SchemaViews.{definition_tree}
use Rattle.graphql_json.specs.nodes.Nodes.{items_of}
use Rattle.graphql_json.specs.nodes.Schemas.{definition_json}
use Rattle.json.specs.Tree.{items_tokens}
use Rattle.graphql_json.proofs.schema.ServiceDocumentNode.write.Given as goal

abbrev pub invariant-loop-definition : goal.invariant-loop-definition
invariant-loop-definition l =
    let rest = items_tokens (items_of (definition_json l.place) (map definition_tree (drop l.definition-index l.definition-items))) in
    let all = items_tokens (items_of (definition_json l.place) (map definition_tree l.definition-items)) in
    l.sheet ++ rest ≡ l.initial.sheet ++ all
