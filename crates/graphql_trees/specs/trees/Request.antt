-- Request trees: what a request stands for, as plain data with every place.
-- Source: GraphQL October 2021, sections 2.2 to 2.8 (Document to Fragments), and 2.10 (Variables).
-- The places, and that operations and fragments keep their source order, are this project's choice.
use Rattle.std.specs.Prelude.{List, [], ◌∷◌, Option, None, Some, map}
use Rattle.graphql_tokens.specs.declared.pos.Pos.{Pos}
use Rattle.graphql_tokens.specs.declared.pos.Positioned.{Positioned}
use Rattle.graphql_syntax.specs.declared.types.OperationType.{OperationType}
use Rattle.graphql_syntax.specs.trees.Parts.{Name, Arguments, Directives}
use Rattle.graphql_syntax.specs.trees.TypeTree.{TypeTree}
use Rattle.graphql_syntax.specs.trees.ValueTree.{Tree}

pub record VariableDefinition : Type 0 where
  pub name : Positioned Name
  pub var_type : Positioned TypeTree
  pub directives : Directives
  pub default_value : Option (Positioned Tree)

-- the type that a fragment applies to
pub record TypeCondition : Type 0 where
  pub on : Positioned Name

pub record FragmentSpread : Type 0 where
  pub fragment_name : Positioned Name
  pub directives : Directives

-- ---- selections, and the sets in them

mutual
  pub data Selection : Type 0 where
    field :
        (pos : Pos) →
        (alias : Option (Positioned Name)) →
        (name : Positioned Name) →
        (arguments : Arguments) →
        (directives : Directives) →
        (set_pos : Pos) →
        (selection_set : SelectionSet) →
        Selection
    fragment_spread : Positioned FragmentSpread → Selection
    inline_fragment :
        (pos : Pos) →
        (type_condition : Option (Positioned TypeCondition)) →
        (directives : Directives) →
        (set_pos : Pos) →
        (selection_set : SelectionSet) →
        Selection

  -- selections with their places, in source order
  pub data SelectionSet : Type 0 where
    no_selections : SelectionSet
    selection_and : Pos → Selection → SelectionSet → SelectionSet

-- the set of a list of selections
abbrev pub set_of : List (Positioned Selection) → SelectionSet
set_of [] = no_selections
set_of (x ∷ xs) = selection_and x.pos x.node (set_of xs)

pub record Field : Type 0 where
  pub alias : Option (Positioned Name)
  pub name : Positioned Name
  pub arguments : Arguments
  pub directives : Directives
  pub selection_set : Positioned SelectionSet

pub record InlineFragment : Type 0 where
  pub type_condition : Option (Positioned TypeCondition)
  pub directives : Directives
  pub selection_set : Positioned SelectionSet

-- a field as a selection
abbrev pub of_field : Positioned Field → Selection
of_field f = field f.pos f.node.alias f.node.name f.node.arguments f.node.directives f.node.selection_set.pos f.node.selection_set.node

-- an inline fragment as a selection
abbrev pub of_inline_fragment : Positioned InlineFragment → Selection
of_inline_fragment i = inline_fragment i.pos i.node.type_condition i.node.directives i.node.selection_set.pos i.node.selection_set.node

-- ---- definitions

pub record OperationDefinition : Type 0 where
  pub ty : OperationType
  pub variable_definitions : List (Positioned VariableDefinition)
  pub directives : Directives
  pub selection_set : Positioned SelectionSet

pub record FragmentDefinition : Type 0 where
  pub type_condition : Positioned TypeCondition
  pub directives : Directives
  pub selection_set : Positioned SelectionSet

-- one operation without a name, or operations under their names, in source order
pub data Operations : Type 0 where
  single : Positioned OperationDefinition → Operations
  multiple : List (Name × Positioned OperationDefinition) → Operations

-- the operations, each with its name where it has one
abbrev pub operations_of : Operations → List (Option Name × Positioned OperationDefinition)
operations_of (single operation) = (None, operation) ∷ []
operations_of (multiple operations) = map (λ operation. (Some operation.0, operation.1)) operations

-- a request: its operations, and its fragments under their names, in source order
pub record Document : Type 0 where
  pub operations : Operations
  pub fragments : List (Name × Positioned FragmentDefinition)
