use Rattle.std.proofs.Common.{◌≡◌, ◌++◌, map}
use Rattle.graphql_parser.specs.trees.RequestViews.{document_tree, entry_tree, fragment_tree}
use Rattle.example_checker.specs.Costs.{set_cost}
use Rattle.example_checker.specs.Prices.{capped, price_in, next_prices}
use Rattle.example_checker.proofs.costs.round.Given as goal

abbrev pub invariant-loop-fragment : goal.invariant-loop-fragment
invariant-loop-fragment l =
    let fragments = (document_tree l.document).fragments in
    (goal.iterator-loop-fragment).can_next l.fragment-iterator ×
    (goal.iterator-loop-fragment).is_finite l.fragment-iterator ×
    (l.next.items ++ map (λ f. capped l.limit (set_cost (price_in fragments l.prices) f.1.node.selection_set.node)) (map (entry_tree fragment_tree) l.fragment-iterator)
    ≡ next_prices l.limit fragments l.prices)
