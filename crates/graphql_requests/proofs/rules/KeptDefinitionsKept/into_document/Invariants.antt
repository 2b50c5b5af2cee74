use Rattle.std.proofs.Common.{◌≡◌, ◌*◌, ◌++◌, length}
use Rattle.graphql_memory.specs.Memory.{Takes}
use Rattle.graphql_requests.specs.reading.SelectionFunds.{definition_bytes}
use Rattle.std.specs.Vec.Iter.{into_iter_items}
use Rattle.graphql_requests.specs.reading.Sorting.{definition_trees, IsSorted}
use Rattle.graphql_requests.proofs.rules.KeptDefinitionsKept.into_document.Given as goal

abbrev pub invariant-loop-definition : goal.invariant-loop-definition
invariant-loop-definition l =
    (goal.iterator-loop-definition).can_next l.definition-iterator ×
    (goal.iterator-loop-definition).is_finite l.definition-iterator ×
    (l.fn.self.items.items ≡ l.yielded ++ into_iter_items l.definition-iterator) ×
    IsSorted (definition_trees l.yielded) l.sorted ×
    Takes (definition_bytes * length l.yielded) l.fn.memory l.memory
