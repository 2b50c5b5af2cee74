use Rattle.std.proofs.Common.{◌++◌, ◌+◌, List, drop, map, ap, ◌∙◌, sym}
use Rattle.std.specs.List.{flat_map}
use Rattle.graphql_trees.specs.trees.RequestViews.{entry_tree, fragment_tree}
use Rattle.graphql_printer.proofs.PrintedRequests.{at_index}
use Rattle.graphql_printer.proofs.Printing.{part_printed}
use Rattle.graphql_printer.specs.inner.Shown.{by_values}
use Rattle.graphql_printer.specs.inner.ShownRequests.{a_fragment, shown_definition, shown_fragment}
use Rattle.graphql_printer.proofs.requests.print_fragments.Goals as goal

pub loop-index-preserved : goal.loop-index-preserved
loop-index-preserved c =
    let entries = c.args.fragments.now.entries in
    let shown = λ (fragments : List _). flat_map shown_definition (map a_fragment (map (entry_tree fragment_tree) fragments)) in
    let here = at_index entries c.loop-index.index _ c.in-Some.ensures.entry in
    part_printed (shown_fragment c.in-Some.name.now (fragment_tree c.in-Some.fragment.now.node)) (shown (drop (c.loop-index.index + 1) entries)) c.in_ok-print_fragment.ensures
    (ap (λ fragments. c.loop-index.out ++ by_values (shown fragments)) (sym here) ∙ c.loop-index.invariant)
