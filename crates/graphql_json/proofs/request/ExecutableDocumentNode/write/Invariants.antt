use Rattle.std.proofs.Common.{◌≡◌, ◌++◌, drop, map}
use Rattle.graphql_parser.specs.trees.RequestViews.{document_tree, entry_tree, fragment_tree}
use Rattle.graphql_json.specs.nodes.Requests.{definitions_json}
use Rattle.graphql_parser.specs.trees.Request.{operations_of}
use Rattle.graphql_parser.proofs.Requests.{operation_trees}
use Rattle.json.specs.Tree.{items_tokens}
use Rattle.graphql_json.proofs.request.ExecutableDocumentNode.write.Given as goal

abbrev pub invariant-loop-name : goal.invariant-loop-name
invariant-loop-name l =
    let document = document_tree l.self in
    (goal.iterator-loop-name).can_next l.name-iterator
    × (goal.iterator-loop-name).is_finite l.name-iterator
    × (l.sheet ++ items_tokens (definitions_json l.place (operation_trees l.name-iterator) (map (entry_tree fragment_tree) (drop l.next l.self.fragments.entries)))
    ≡ l.initial.sheet ++ items_tokens (definitions_json l.place (operations_of document.operations) document.fragments))
