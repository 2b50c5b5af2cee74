use Rattle.std.proofs.Common.{◌≡◌, ◌++◌, List, drop, map}
use Rattle.std.specs.List.{flat_map}
use Rattle.graphql_trees.specs.trees.RequestViews.{entry_tree, fragment_tree}
use Rattle.graphql_requests.specs.grammar.Request.{Definition}
use Rattle.graphql_printer.specs.inner.Shown.{by_values}
use Rattle.graphql_printer.specs.inner.ShownRequests.{Fragment, after_fragments, shown_definition}
use Rattle.graphql_printer.proofs.requests.print_fragments_before.Given as goal

abbrev pub invariant-loop-index : goal.invariant-loop-index
invariant-loop-index l = (definition : Definition) → (others : List Fragment → List Definition)
    → l.out ++ by_values (flat_map shown_definition (after_fragments l.pos definition others (map (entry_tree fragment_tree) (drop l.index l.fragments.entries))))
    ≡ l.initial.out ++ by_values (flat_map shown_definition (after_fragments l.pos definition others (map (entry_tree fragment_tree) (drop l.from l.fragments.entries))))
