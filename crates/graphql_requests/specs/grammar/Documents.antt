-- The document of a list of definitions that breaks no rule.
-- Source: this project's choice, as the Rust crate's: an operation without a name, or operations by name; and
-- fragments by name.
use Rattle.std.specs.Prelude.{List, [], ◌∷◌, Some, None}
use Rattle.graphql_tokens.specs.declared.pos.Positioned.{Positioned}
use Rattle.graphql_syntax.specs.trees.Parts.{Name}
use Rattle.graphql_trees.specs.trees.Request.{OperationDefinition, FragmentDefinition, Operations, single, multiple, Document}
use Rattle.graphql_requests.specs.grammar.Request.{Definition, operation, fragment}

-- the operations with a name, in source order
abbrev pub named_operations : List Definition → List (Name × Positioned OperationDefinition)
named_operations [] = []
named_operations (operation None o ∷ ds) = named_operations ds
named_operations (operation (Some name) o ∷ ds) = (name, o) ∷ named_operations ds
named_operations (fragment name f ∷ ds) = named_operations ds

-- the fragments, in source order
abbrev pub fragments : List Definition → List (Name × Positioned FragmentDefinition)
fragments [] = []
fragments (operation name o ∷ ds) = fragments ds
fragments (fragment name f ∷ ds) = (name, f) ∷ fragments ds

-- an operation without a name stands alone
abbrev pub operations_beside : List (Name × Positioned OperationDefinition) → List Definition → Operations
operations_beside named [] = multiple named
operations_beside named (operation None o ∷ ds) = single o
operations_beside named (operation (Some name) o ∷ ds) = operations_beside named ds
operations_beside named (fragment name f ∷ ds) = operations_beside named ds

abbrev pub document_of : List Definition → Document
document_of ds = record { operations = operations_beside (named_operations ds) ds; fragments = fragments ds }
