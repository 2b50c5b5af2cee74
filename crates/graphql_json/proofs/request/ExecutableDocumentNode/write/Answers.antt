use Rattle.std.proofs.Common.{◌++◌, drop, map, ap, sym, ◌∙◌, refl}
use Rattle.graphql_parser.specs.trees.RequestViews.{document_tree, entry_tree, fragment_tree}
use Rattle.graphql_parser.proofs.Requests.{operation_trees}
use Rattle.graphql_json.proofs.Steps.{next, whole_node, whole_list}
use Rattle.graphql_json.specs.nodes.Requests.{definitions_json}
use Rattle.graphql_parser.specs.trees.Request.{operations_of}
use Rattle.json.specs.Json.{no_items}
use Rattle.json.specs.Tree.{items_tokens}
use Rattle.graphql_json.proofs.request.ExecutableDocumentNode.write.Goals as goal

pub returns : goal.returns
returns c =
    let place = c.args.place in
    let document = document_tree c.args.self.now in
    let left = map (entry_tree fragment_tree) (drop c.loop-name.next c.args.self.now.fragments.entries) in
    let walked = ap (λ operations. c.loop-name.sheet ++ items_tokens (definitions_json place (operation_trees operations) left)) (sym c.in-None.ensures.steps.0) in
    let definitions =
    whole_list (definitions_json place (operations_of document.operations) document.fragments) no_items
    c.in_ok-open_list.ensures (c.in_ok-write_fragments.ensures ∙ walked ∙ c.loop-name.invariant.2) refl c.in_ok-close_list.ensures in
    whole_node _ _ _ c.in_ok-begin.ensures (next definitions c.close.ensures)
