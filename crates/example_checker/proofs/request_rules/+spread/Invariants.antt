use Rattle.std.proofs.Common.{◌≡◌, drop}
use Rattle.graphql_parser.specs.trees.Request.{set_of}
use Rattle.graphql_parser.specs.trees.RequestViews.{selection_set_tree, selection_trees}
use Rattle.example_checker.specs.Requests.{spreads}
use Rattle.example_checker.proofs.request_rules.+spread.Given as goal

abbrev pub invariant-has_spread-loop-item : goal.invariant-has_spread-loop-item
invariant-has_spread-loop-item l = spreads l.name (selection_set_tree l.set) ≡ spreads l.name (set_of (selection_trees (drop l.item-index l.item-items)))
