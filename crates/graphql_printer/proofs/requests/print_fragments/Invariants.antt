use Rattle.std.proofs.Common.{◌≡◌, ◌++◌, drop, map}
use Rattle.std.specs.List.{flat_map}
use Rattle.graphql_trees.specs.trees.RequestViews.{entry_tree, fragment_tree}
use Rattle.graphql_printer.specs.inner.Shown.{by_values}
use Rattle.graphql_printer.specs.inner.ShownRequests.{a_fragment, shown_definition}
use Rattle.graphql_printer.proofs.requests.print_fragments.Given as goal

abbrev pub invariant-loop-index : goal.invariant-loop-index
invariant-loop-index l =
    let rest = by_values (flat_map shown_definition (map a_fragment (map (entry_tree fragment_tree) (drop l.index l.fragments.entries)))) in
    let all = by_values (flat_map shown_definition (map a_fragment (map (entry_tree fragment_tree) (drop l.from l.fragments.entries)))) in
    l.out ++ rest ≡ l.initial.out ++ all
