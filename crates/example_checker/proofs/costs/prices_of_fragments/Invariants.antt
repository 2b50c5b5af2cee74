use Rattle.graphql_parser.specs.trees.RequestViews.{document_tree}
use Rattle.example_checker.proofs.Known.{Between}
use Rattle.example_checker.proofs.costs.prices_of_fragments.Given as goal

abbrev pub invariant-loop : goal.invariant-loop
invariant-loop l = Between l.limit (document_tree l.document).fragments l.counter l.prices.items
