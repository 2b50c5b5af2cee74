-- The spreads of the operations of a request as they are walked, and those of its tree.
use Rattle.std.proofs.Common.{◌≡◌, Bool, true, false, ◌||◌, List, [], ◌∷◌, map, refl, ap, sym}
use Rattle.graphql_parser.specs.types.DocumentOperations.{DocumentOperations}
use Rattle.graphql_parser.specs.types.DocumentOperations.TheVariants.{Single, Multiple}
use Rattle.graphql_parser.specs.types.OperationDefinition.{OperationDefinition}
use Rattle.graphql_parser.specs.types.Positioned.{Positioned}
use Rattle.graphql_parser.specs.trees.Parts.{Name}
use Rattle.graphql_parser.specs.trees.Request as request
use Rattle.graphql_parser.specs.trees.RequestViews.{entry_tree, operation_tree, operations_tree, selection_set_tree}
use Rattle.graphql_parser.specs.calls.Operations.{NamedOperation, operations_list, with_name}
use Rattle.example_checker.specs.Requests.{spreads, operations_spread}

-- whether a spread of this name stands in one of the operations that are still to be walked
abbrev pub walked_spread : Name → List NamedOperation → Bool
walked_spread name [] = false
walked_spread name (o ∷ os) = spreads name (selection_set_tree o.1.node.selection_set.node) || walked_spread name os

or-false : (b : Bool) → (b || false) ≡ b
or-false true = refl
or-false false = refl

entries_walked : (name : Name) (es : List (Name × Positioned OperationDefinition)) →
    operations_spread name (request.multiple (map (entry_tree operation_tree) es)) ≡ walked_spread name (map with_name es)
entries_walked name [] = refl
entries_walked name (e ∷ es) = ap (λ later. spreads name (selection_set_tree e.1.node.selection_set.node) || later) (entries_walked name es)

pub operations_walked : (name : Name) (ops : DocumentOperations) → operations_spread name (operations_tree ops) ≡ walked_spread name (operations_list ops)
operations_walked name (Single o) = sym (or-false (spreads name (selection_set_tree o.node.selection_set.node)))
operations_walked name (Multiple m) = entries_walked name m.entries
