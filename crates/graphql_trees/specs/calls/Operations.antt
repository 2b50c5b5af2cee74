-- The operations of a request, as a list.
-- Source: GraphQL October 2021, section 2.3 (Operations). That they keep their source order, and how a name finds one, is
-- this project's choice.
use Rattle.std.specs.Prelude.{ℕ, List, [], ◌∷◌, Option, Some, None, map, option_map}
use Rattle.std.specs.Borrow.{Bor}
use Rattle.graphql_syntax.specs.calls.Named.{named}
use Rattle.graphql_tokens.specs.declared.pos.Positioned.{Positioned}
use Rattle.graphql_trees.specs.declared.executable.OperationDefinition.{OperationDefinition}
use Rattle.graphql_trees.specs.declared.executable.DocumentOperations.{DocumentOperations}
use Rattle.graphql_trees.specs.declared.executable.DocumentOperations.TheVariants.{Single, Multiple}

abbrev pub Operation : Type 0
Operation = Positioned OperationDefinition

-- an operation, with its name where it has one
abbrev pub NamedOperation : Type 0
NamedOperation = Option (List ℕ) × Operation

-- an operation of a map, under its name
abbrev pub with_name : List ℕ × Operation → NamedOperation
with_name e = (Some e.0, e.1)

-- all operations in source order
abbrev pub operations_list : DocumentOperations → List NamedOperation
operations_list (Single o) = (None, o) ∷ []
operations_list (Multiple m) = map with_name m.entries

-- the operation of a name; an operation that stands alone has none
abbrev pub operation_named : List ℕ → DocumentOperations → Option Operation
operation_named n (Single o) = None
operation_named n (Multiple m) = named n m.entries

-- an item of the iterator, without its references
abbrev pub operation_item : Option (Bor (List ℕ)) × Bor Operation → NamedOperation
operation_item p = (option_map (λ n. n.now) p.0, p.1.now)
