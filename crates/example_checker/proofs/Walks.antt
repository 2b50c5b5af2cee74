-- The operations of a request as they are walked, and those of its tree.
use Rattle.std.proofs.Common.{arith, ◌≡◌, ℕ, List, [], ◌∷◌, map, Option, Some, None, refl, ap, sym}
use Rattle.graphql_parser.specs.types.DocumentOperations.{DocumentOperations}
use Rattle.graphql_parser.specs.types.DocumentOperations.TheVariants.{Single, Multiple}
use Rattle.graphql_parser.specs.types.OperationDefinition.{OperationDefinition}
use Rattle.graphql_parser.specs.types.Positioned.{Positioned}
use Rattle.graphql_parser.specs.trees.Parts.{Name}
use Rattle.graphql_parser.specs.trees.Request as request
use Rattle.graphql_parser.specs.trees.RequestViews.{entry_tree, operation_tree, operations_tree, selection_set_tree}
use Rattle.graphql_parser.specs.calls.Operations.{NamedOperation, operations_list, with_name}
use Rattle.example_checker.specs.Costs.{both, set_cost, operations_cost}

-- what the operations cost that are still to be walked
abbrev pub walked_cost : (Name → Option ℕ) → List NamedOperation → Option ℕ
walked_cost cost_of [] = Some 0
walked_cost cost_of (o ∷ os) = both (set_cost cost_of (selection_set_tree o.1.node.selection_set.node)) (walked_cost cost_of os)

both_nothing : (x : Option ℕ) → both x (Some 0) ≡ x
both_nothing None = refl
both_nothing (Some c) = ap Some (omega arith)

pub nothing_both : (x : Option ℕ) → both (Some 0) x ≡ x
nothing_both None = refl
nothing_both (Some c) = ap Some (omega arith)

entries_walked : (cost_of : Name → Option ℕ) (es : List (Name × Positioned OperationDefinition)) →
    operations_cost cost_of (request.multiple (map (entry_tree operation_tree) es)) ≡ walked_cost cost_of (map with_name es)
entries_walked cost_of [] = refl
entries_walked cost_of (e ∷ es) = ap (both (set_cost cost_of (selection_set_tree e.1.node.selection_set.node))) (entries_walked cost_of es)

pub operations_walked : (cost_of : Name → Option ℕ) (ops : DocumentOperations) → operations_cost cost_of (operations_tree ops) ≡ walked_cost cost_of (operations_list ops)
operations_walked cost_of (Single o) = sym (both_nothing (set_cost cost_of (selection_set_tree o.node.selection_set.node)))
operations_walked cost_of (Multiple m) = entries_walked cost_of m.entries
