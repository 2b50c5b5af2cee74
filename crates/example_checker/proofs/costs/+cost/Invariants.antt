use Rattle.std.proofs.Common.{◌≡◌, ◌≤◌, ◌+◌, Some, drop}
use Rattle.graphql_parser.specs.trees.Request.{set_of}
use Rattle.graphql_parser.specs.trees.RequestViews.{document_tree, selection_set_tree, selection_trees}
use Rattle.example_checker.specs.Costs.{both, set_cost}
use Rattle.example_checker.specs.Prices.{capped, price_in}
use Rattle.example_checker.proofs.costs.+cost.Given as goal

abbrev pub invariant-price_of_set-loop-item : goal.invariant-price_of_set-loop-item
invariant-price_of_set-loop-item l =
    let prices = price_in (document_tree l.document).fragments l.prices in
    (l.cost ≤ l.limit + 1) ×
    (capped l.limit (set_cost prices (selection_set_tree l.set)) ≡ capped l.limit (both (Some l.cost) (set_cost prices (set_of (selection_trees (drop l.item-index l.item-items))))))
