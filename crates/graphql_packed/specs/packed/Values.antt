-- The bytes of what requests and schema files share: values, arguments, directives and types.
-- Source: this project's choice.
use Rattle.std.specs.Prelude.{ℕ, suc, ◌++◌, [], true, false}
use Rattle.graphql_parser.specs.trees.Parts.{Name, Directive, Directives, Arguments}
use Rattle.graphql_parser.specs.trees.TypeTree.{TypeTree, named, list as list_of}
use Rattle.graphql_parser.specs.trees.ValueTree.{Tree, variable, null, number, string, boolean, enumeration, list, object, Trees, no_trees, more_trees, Fields, no_fields, field}
use Rattle.graphql_parser.specs.types.Positioned.{Positioned}
use Rattle.graphql_packed.specs.packed.Bytes.{Bytes, number_bytes, choice, flag, text_bytes, node_bytes, word_bytes, list_bytes}

-- ---- values

abbrev pub items_count : Trees → ℕ
items_count no_trees = 0
items_count (more_trees value items) = suc (items_count items)

abbrev pub fields_count : Fields → ℕ
fields_count no_fields = 0
fields_count (field name value fields) = suc (fields_count fields)

-- A value: what it is, and its text. A list has its items after how many they are, and an object its fields, each a name
-- and a value.
abbrev mutual
  pub value_bytes : Tree → Bytes
  value_bytes (variable name) = choice 0 ++ text_bytes name
  value_bytes null = choice 1
  value_bytes (number literal) = choice 2 ++ text_bytes literal
  value_bytes (string text) = choice 3 ++ text_bytes text
  value_bytes (boolean false) = choice 4
  value_bytes (boolean true) = choice 5
  value_bytes (enumeration name) = choice 6 ++ text_bytes name
  value_bytes (list items) = choice 7 ++ number_bytes (items_count items) ++ items_bytes items
  value_bytes (object fields) = choice 8 ++ number_bytes (fields_count fields) ++ fields_bytes fields

  pub items_bytes : Trees → Bytes
  items_bytes no_trees = []
  items_bytes (more_trees value items) = value_bytes value ++ items_bytes items

  pub fields_bytes : Fields → Bytes
  fields_bytes no_fields = []
  fields_bytes (field name value fields) = (text_bytes name ++ value_bytes value) ++ fields_bytes fields

-- ---- arguments and directives

-- an argument, over the bytes of its value: its name, and its value
abbrev pub argument_with : {V : Type 0} → (V → Bytes) → Positioned Name × Positioned V → Bytes
argument_with bytes argument = word_bytes argument.0 ++ node_bytes bytes argument.1

abbrev pub arguments_bytes : Arguments → Bytes
arguments_bytes arguments = list_bytes (argument_with value_bytes) arguments

abbrev pub directive_bytes : Directive → Bytes
directive_bytes directive = word_bytes directive.name ++ arguments_bytes directive.arguments

abbrev pub directives_bytes : Directives → Bytes
directives_bytes directives = list_bytes (node_bytes directive_bytes) directives

-- ---- types

-- a type: whether it may be null, and then its name, or the type of its items
abbrev pub type_bytes : TypeTree → Bytes
type_bytes (named name nullable) = flag nullable ++ (choice 0 ++ text_bytes name)
type_bytes (list_of inner nullable) = flag nullable ++ (choice 1 ++ type_bytes inner)
