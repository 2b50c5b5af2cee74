use Rattle.std.proofs.Common.{◌≡◌, ◌++◌}
use Rattle.std.specs.Vec.Iter.{into_iter_items}
use Rattle.graphql_schemas.proofs.Roots.{AreKept}
use Rattle.graphql_schemas.proofs.rules.sorted.Given as goal

abbrev pub invariant-loop-root : goal.invariant-loop-root
invariant-loop-root l =
    (goal.iterator-loop-root).can_next l.root-iterator ×
    (goal.iterator-loop-root).is_finite l.root-iterator ×
    (l.fn.roots.items ≡ l.yielded ++ into_iter_items l.root-iterator) ×
    AreKept l.yielded l.sorted
