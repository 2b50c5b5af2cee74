use Rattle.std.proofs.Common.{◌≡◌, ◌++◌, drop, map}
use Rattle.std.specs.List.{flat_map}
use Rattle.graphql_trees.proofs.Requests.{operation_trees}
use Rattle.graphql_trees.specs.trees.RequestViews.{document_tree, entry_tree, fragment_tree}
use Rattle.graphql_printer.specs.inner.Shown.{by_values}
use Rattle.graphql_printer.specs.inner.ShownRequests.{arranged, shown_definition, shown_request}
use Rattle.graphql_printer.proofs.requests.print_request.Given as goal

abbrev pub invariant-loop-name : goal.invariant-loop-name
invariant-loop-name l =
    (goal.iterator-loop-name).can_next l.name-iterator
    × (goal.iterator-loop-name).is_finite l.name-iterator
    × (l.out ++ by_values (flat_map shown_definition (arranged (operation_trees l.name-iterator) (map (entry_tree fragment_tree) (drop l.next l.document.fragments.entries))))
    ≡ l.initial.out ++ by_values (shown_request (document_tree l.document)))
