use Rattle.std.proofs.Common.{◌≡◌, ◌++◌, drop}
use Rattle.graphql_trees.specs.trees.Request.{set_of}
use Rattle.graphql_trees.specs.trees.RequestViews.{selection_trees}
use Rattle.graphql_printer.specs.inner.Shown.{by_values}
use Rattle.graphql_printer.specs.inner.ShownRequests.{shown_selections}
use Rattle.graphql_printer.proofs.requests.+set.Given as goal

abbrev pub invariant-print_selections-loop-item : goal.invariant-print_selections-loop-item
invariant-print_selections-loop-item l =
    let rest = by_values (shown_selections (set_of (selection_trees (drop l.item-index l.item-items)))) in
    let all = by_values (shown_selections (set_of (selection_trees l.item-items))) in
    l.out ++ rest ≡ l.initial.out ++ all
