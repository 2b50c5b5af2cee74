use Rattle.std.proofs.Common.{◌≡◌}
use Rattle.graphql_syntax.specs.calls.Named.{named}
use Rattle.graphql_trees.proofs.lookup.find_entry.Given as goal

abbrev pub invariant-loop-key : goal.invariant-loop-key
invariant-loop-key g l =
    (goal.iterator-loop-key g).can_next l.key-iterator ×
    (goal.iterator-loop-key g).is_finite l.key-iterator ×
    (named l.name l.map.entries ≡ named l.name l.key-iterator)
