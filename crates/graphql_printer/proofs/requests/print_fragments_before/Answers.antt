use Rattle.std.proofs.Common.{◌∷◌, ◌++◌, ◌+◌, List, drop, map, ap, ◌∙◌, sym}
use Rattle.std.specs.List.{flat_map}
use Rattle.graphql_trees.specs.trees.RequestViews.{entry_tree, fragment_tree}
use Rattle.graphql_printer.proofs.PrintedRequests.{at_index, after_earlier, before_later}
use Rattle.graphql_printer.proofs.Printing.{part_printed}
use Rattle.graphql_printer.specs.inner.Shown.{by_values}
use Rattle.graphql_printer.specs.inner.ShownRequests.{after_fragments, shown_definition, shown_fragment}
use Rattle.graphql_printer.proofs.requests.print_fragments_before.Goals as goal

pub loop-index-preserved : goal.loop-index-preserved
loop-index-preserved c definition others =
    let entries = c.args.fragments.now.entries in
    let left = λ (fragments : List _). after_fragments c.args.pos definition others (map (entry_tree fragment_tree) fragments) in
    let here = at_index entries c.loop-index.index _ c.in-Some.ensures.entry in
    let earlier = after_earlier c.args.pos definition others _ (map (entry_tree fragment_tree) (drop (c.loop-index.index + 1) entries)) (sym c.stands_before.ensures ∙ c.if-not-stands_before.false) in
    part_printed (shown_fragment c.in-Some.name.now (fragment_tree c.in-Some.fragment.now.node)) (flat_map shown_definition (left (drop (c.loop-index.index + 1) entries))) c.in_ok-print_fragment.ensures
    (ap (λ ds. c.loop-index.out ++ by_values (flat_map shown_definition ds)) (sym (ap left here ∙ earlier)) ∙ c.loop-index.invariant definition others)

pub returns-then-not-stands_before : goal.returns-then-not-stands_before
returns-then-not-stands_before c definition others =
    let entries = c.args.fragments.now.entries in
    let left = λ (fragments : List _). after_fragments c.args.pos definition others (map (entry_tree fragment_tree) fragments) in
    let here = at_index entries c.loop-index.index _ c.in-Some.ensures.entry in
    let later = before_later c.args.pos definition others _ (map (entry_tree fragment_tree) (drop (c.loop-index.index + 1) entries)) (sym c.stands_before.ensures ∙ c.if-not-stands_before.true) in
    ap (λ ds. c.loop-index.out ++ by_values (flat_map shown_definition ds)) (sym (ap left here ∙ later ∙ ap (λ fragments. definition ∷ others (map (entry_tree fragment_tree) fragments)) (sym here))) ∙ c.loop-index.invariant definition others
