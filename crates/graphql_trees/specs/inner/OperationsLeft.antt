-- The operations that the private state of an iterator over them has left.
use Rattle.std.specs.Prelude.{List, [], ◌∷◌, Option, Some, None, map}
use Rattle.std.specs.Borrow.{Bor}
use Rattle.graphql_trees.specs.calls.Operations.{Operation, NamedOperation, with_name}
use Rattle.graphql_trees.specs.declared.executable.Left.{Left}
use Rattle.graphql_trees.specs.declared.executable.Left.TheVariants.{Single, Multiple}

abbrev pub nameless : Option (Bor Operation) → List NamedOperation
nameless None = []
nameless (Some o) = (None, o.now) ∷ []

abbrev pub operations_left : Left → List NamedOperation
operations_left (Single o) = nameless o
operations_left (Multiple entries) = map with_name entries
