-- Values in whose objects no name comes twice (GraphQL October 2021, section 5.6.3). The grammar gives a repeated name
-- the value with which it comes last, so this holds of each value that is read.
use Rattle.std.specs.Prelude.{◌≢◌, ℕ, Option, Some, None, List}
use Rattle.std.specs.List.{AllByRecursion}
use Rattle.graphql_tokens.specs.declared.pos.Positioned.{Positioned}
use Rattle.graphql_syntax.specs.trees.Parts.{Argument, Arguments, Directive, Directives}
use Rattle.graphql_syntax.specs.trees.ValueTree.{Tree, Trees, Fields, variable, null, number, string, boolean, enumeration, list, object, no_trees, more_trees, no_fields, field}

-- none of the fields has this name
abbrev pub HasNone : List ℕ → Fields → Type 0
HasNone name no_fields = Unit {0}
HasNone name (field other value fields) = (other ≢ name) × HasNone name fields

-- no object in the tree, at any depth, has two fields of one name
abbrev mutual
  pub IsDistinct : Tree → Type 0
  IsDistinct (variable name) = Unit {0}
  IsDistinct null = Unit {0}
  IsDistinct (number literal) = Unit {0}
  IsDistinct (string text) = Unit {0}
  IsDistinct (boolean b) = Unit {0}
  IsDistinct (enumeration name) = Unit {0}
  IsDistinct (list items) = AreDistinctItems items
  IsDistinct (object fields) = AreDistinctFields fields

  pub AreDistinctItems : Trees → Type 0
  AreDistinctItems no_trees = Unit {0}
  AreDistinctItems (more_trees item items) = IsDistinct item × AreDistinctItems items

  pub AreDistinctFields : Fields → Type 0
  AreDistinctFields no_fields = Unit {0}
  AreDistinctFields (field name value fields) = HasNone name fields × IsDistinct value × AreDistinctFields fields

abbrev pub IsDistinctValue : Positioned Tree → Type 0
IsDistinctValue value = IsDistinct value.node

abbrev pub IsDistinctDefault : Option (Positioned Tree) → Type 0
IsDistinctDefault None = Unit {0}
IsDistinctDefault (Some value) = IsDistinctValue value

abbrev pub IsDistinctArgument : Argument → Type 0
IsDistinctArgument argument = IsDistinct argument.1.node

abbrev pub AreDistinctArguments : Arguments → Type 0
AreDistinctArguments arguments = AllByRecursion IsDistinctArgument arguments

abbrev pub IsDistinctDirective : Positioned Directive → Type 0
IsDistinctDirective directive = AreDistinctArguments directive.node.arguments

abbrev pub AreDistinctDirectives : Directives → Type 0
AreDistinctDirectives directives = AllByRecursion IsDistinctDirective directives
