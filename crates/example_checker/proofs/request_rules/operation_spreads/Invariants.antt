use Rattle.std.proofs.Common.{◌≡◌}
use Rattle.graphql_parser.specs.trees.RequestViews.{document_tree}
use Rattle.example_checker.specs.Requests.{operations_spread}
use Rattle.example_checker.proofs.Spreads.{walked_spread}
use Rattle.example_checker.proofs.request_rules.operation_spreads.Given as goal

abbrev pub invariant-loop-operation : goal.invariant-loop-operation
invariant-loop-operation l =
    (goal.iterator-loop-operation).can_next l.operation-iterator ×
    (goal.iterator-loop-operation).is_finite l.operation-iterator ×
    (operations_spread l.name (document_tree l.document).operations ≡ walked_spread l.name l.operation-iterator)
