use Rattle.std.proofs.Common.{List, drop, map, ap, codes}
use Rattle.std.proofs.lemmas.List.{at_drop_all}
use Rattle.graphql_parser.specs.trees.SchemaViews.{definition_tree}
use Rattle.graphql_json.proofs.Steps.{next, as_tokens, whole_node, whole_list}
use Rattle.graphql_json.specs.inner.Written.{member_tokens}
use Rattle.graphql_json.specs.nodes.Nodes.{items_of}
use Rattle.graphql_json.specs.nodes.Schemas.{definition_json}
use Rattle.json.specs.Json.{array}
use Rattle.graphql_json.proofs.schema.ServiceDocumentNode.write.Goals as goal

pub returns : goal.returns
returns c =
    let lent = c.deref-definition-items in
    let json = λ (definitions : List _). items_of (definition_json c.args.place) (map definition_tree definitions) in
    let none = at_drop_all json lent.result.now c.loop-definition.definition-index c.loop-definition-test.false in
    let definitions =
    as_tokens (ap (λ definitions. member_tokens (codes "definitions") (array (json definitions))) lent.ensures.value)
    (whole_list (json lent.result.now) (json (drop c.loop-definition.definition-index lent.result.now)) c.in_ok-open_list.ensures c.loop-definition.invariant none c.in_ok-close_list.ensures) in
    whole_node _ _ _ c.in_ok-begin.ensures (next definitions c.close.ensures)
