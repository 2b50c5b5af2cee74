-- Schema trees: what a schema file stands for, as plain data with every place.
-- Source: GraphQL October 2021, sections 3.1 to 3.10 (Type System Extensions to Input Objects) and 3.13 (Directives).
-- The places are this project's choice, and so is one kind of node for a definition and its extension.
use Rattle.std.specs.Prelude.{ℕ, List, Bool, Option}
use Rattle.graphql_tokens.specs.declared.pos.Positioned.{Positioned}
use Rattle.graphql_trees.specs.declared.service.DirectiveLocation.{DirectiveLocation}
use Rattle.graphql_syntax.specs.trees.Parts.{Name, Directives}
use Rattle.graphql_syntax.specs.trees.TypeTree.{TypeTree}
use Rattle.graphql_syntax.specs.trees.ValueTree.{Tree}

-- the text of a description, where there is one
abbrev pub Description : Type 0
Description = Option (Positioned (List ℕ))

abbrev pub Names : Type 0
Names = List (Positioned Name)

-- ---- the parts of types

pub record InputValueDefinition : Type 0 where
  pub description : Description
  pub name : Positioned Name
  pub ty : Positioned TypeTree
  pub default_value : Option (Positioned Tree)
  pub directives : Directives

abbrev pub InputValues : Type 0
InputValues = List (Positioned InputValueDefinition)

pub record FieldDefinition : Type 0 where
  pub description : Description
  pub name : Positioned Name
  pub arguments : InputValues
  pub ty : Positioned TypeTree
  pub directives : Directives

pub record EnumValueDefinition : Type 0 where
  pub description : Description
  pub value : Positioned Name
  pub directives : Directives

-- an object type or an interface: its interfaces, and its fields
pub record Fields : Type 0 where
  pub implements : Names
  pub fields : List (Positioned FieldDefinition)

pub data TypeKind : Type 0 where
  scalar : TypeKind
  object : Fields → TypeKind
  interface : Fields → TypeKind
  union : Names → TypeKind
  enumeration : List (Positioned EnumValueDefinition) → TypeKind
  input_object : InputValues → TypeKind

-- ---- definitions and extensions

pub record SchemaDefinition : Type 0 where
  pub description : Description
  pub extend : Bool
  pub directives : Directives
  pub query : Option (Positioned Name)
  pub mutation : Option (Positioned Name)
  pub subscription : Option (Positioned Name)

pub record TypeDefinition : Type 0 where
  pub extend : Bool
  pub description : Description
  pub name : Positioned Name
  pub directives : Directives
  pub kind : TypeKind

pub record DirectiveDefinition : Type 0 where
  pub description : Description
  pub name : Positioned Name
  pub arguments : InputValues
  pub is_repeatable : Bool
  pub locations : List (Positioned DirectiveLocation)

pub data Definition : Type 0 where
  schema : Positioned SchemaDefinition → Definition
  type_def : Positioned TypeDefinition → Definition
  directive : Positioned DirectiveDefinition → Definition

-- a schema file: its definitions and extensions, in source order
abbrev pub Document : Type 0
Document = List Definition
