use Rattle.std.proofs.Common.{◌≡◌, length}
use Rattle.graphql_parser.specs.trees.RequestViews.{document_tree}
use Rattle.example_checker.specs.Prices.{AreKnownIn, prices_after}
use Rattle.example_checker.proofs.costs.first_prices.Given as goal

abbrev pub invariant-loop-place : goal.invariant-loop-place
invariant-loop-place l =
    let fragments = (document_tree l.document).fragments in
    (length l.prices.items ≡ length fragments) ×
    AreKnownIn l.prices.items (prices_after l.limit fragments (length fragments))
