use Rattle.std.proofs.Common.{◌≡◌, ◌≤◌, ◌+◌, Some}
use Rattle.graphql_parser.specs.trees.RequestViews.{document_tree}
use Rattle.example_checker.specs.Costs.{both, operations_cost}
use Rattle.example_checker.specs.Prices.{capped, price_in}
use Rattle.example_checker.proofs.Walks.{walked_cost}
use Rattle.example_checker.proofs.costs.price_of_operations.Given as goal

abbrev pub invariant-loop-operation : goal.invariant-loop-operation
invariant-loop-operation l =
    let prices = price_in (document_tree l.document).fragments l.prices in
    (goal.iterator-loop-operation).can_next l.operation-iterator ×
    (goal.iterator-loop-operation).is_finite l.operation-iterator ×
    (l.cost ≤ l.limit + 1) ×
    (capped l.limit (operations_cost prices (document_tree l.document).operations) ≡ capped l.limit (both (Some l.cost) (walked_cost prices l.operation-iterator)))
