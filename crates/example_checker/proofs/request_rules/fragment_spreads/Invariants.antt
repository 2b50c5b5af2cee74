use Rattle.std.proofs.Common.{◌≡◌, map}
use Rattle.graphql_parser.specs.trees.RequestViews.{document_tree, entry_tree, fragment_tree}
use Rattle.example_checker.specs.Requests.{fragments_spread}
use Rattle.example_checker.proofs.request_rules.fragment_spreads.Given as goal

abbrev pub invariant-loop-fragment : goal.invariant-loop-fragment
invariant-loop-fragment l =
    (goal.iterator-loop-fragment).can_next l.fragment-iterator ×
    (goal.iterator-loop-fragment).is_finite l.fragment-iterator ×
    (fragments_spread l.name (document_tree l.document).fragments ≡ fragments_spread l.name (map (entry_tree fragment_tree) l.fragment-iterator))
