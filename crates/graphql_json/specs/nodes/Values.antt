-- The JSON of what requests and schema files share: names, values, arguments, directives and types.
-- Source: the syntax trees of GraphQL.js, version 16. What is inside a list, an object or a list type has no place: our trees keep none.
use Rattle.std.specs.Prelude.{ℕ, List, Option, ◌||◌, Bool, true, false, if◌then◌else◌, ◌==◌, codes}
use Rattle.std.specs.List.{list_any}
use Rattle.std.specs.Str.{byte}
use Rattle.graphql_parser.specs.trees.Parts.{Name, placed, Arguments, Directive, Directives}
use Rattle.graphql_parser.specs.trees.TypeTree.{TypeTree, named, list as list_type}
use Rattle.graphql_parser.specs.trees.ValueTree.{Tree, variable, null, number, string, boolean, enumeration, list, object, Trees, no_trees, more_trees, Fields, no_fields, field}
use Rattle.graphql_parser.specs.types.Positioned.{Positioned}
use Rattle.graphql_json.specs.declared.place.Place.{Place}
use Rattle.graphql_json.specs.nodes.Nodes.{at, nowhere, node, optional, items_of, placed_json, placed_list}
use Rattle.json.specs.Json as json
use Rattle.json.specs.Json.{Json, Items, no_items, item, Members, no_members, member}

-- ---- names and texts

-- a node whose value is a text
abbrev pub text_json : List ℕ → Place → List ℕ → Json
text_json kind place text = node kind place (member (codes "value") (json.string text) no_members)

abbrev pub name_json : Place → Name → Json
name_json place name = text_json (codes "Name") place name

-- what a string or a block string stands for
abbrev pub string_json : Place → List ℕ → Json
string_json place text = text_json (codes "StringValue") place text

-- ---- values

-- a number with a fraction or an exponent is a float
abbrev pub marks_float : ℕ → Bool
marks_float c = (c == byte ".") || (c == byte "e") || (c == byte "E")

abbrev pub number_kind : List ℕ → List ℕ
number_kind literal = if list_any marks_float literal then codes "FloatValue" else codes "IntValue"

-- a field of an object, over the JSON of its value
abbrev pub field_node : Place → Name → Json → Json
field_node place name value = node (codes "ObjectField") place (member (codes "name") (name_json place name) (member (codes "value") value no_members))

abbrev mutual
  pub value_json : Place → Tree → Json
  value_json place (variable name) = node (codes "Variable") place (member (codes "name") (name_json (nowhere place) name) no_members)
  value_json place null = node (codes "NullValue") place no_members
  value_json place (number literal) = text_json (number_kind literal) place literal
  value_json place (string text) = string_json place text
  value_json place (boolean value) = node (codes "BooleanValue") place (member (codes "value") (json.boolean value) no_members)
  value_json place (enumeration name) = text_json (codes "EnumValue") place name
  value_json place (list items) = node (codes "ListValue") place (member (codes "values") (json.array (items_json (nowhere place) items)) no_members)
  value_json place (object fields) = node (codes "ObjectValue") place (member (codes "fields") (json.array (fields_json (nowhere place) fields)) no_members)

  pub items_json : Place → Trees → Items
  items_json place no_trees = no_items
  items_json place (more_trees value items) = item (value_json place value) (items_json place items)

  pub fields_json : Place → Fields → Items
  fields_json place no_fields = no_items
  fields_json place (field name value fields) = item (field_node place name (value_json place value)) (fields_json place fields)

-- ---- arguments and directives

-- an argument, over the tree of its value
abbrev pub argument_tree : {V T : Type 0} → (V → T) → Positioned Name × Positioned V → Positioned Name × Positioned T
argument_tree tree argument = (argument.0, placed tree argument.1)

-- an argument stands at its name
abbrev pub argument_with : {V : Type 0} → (Place → V → Json) → Place → Positioned Name × Positioned V → Json
argument_with json place argument =
    node (codes "Argument") (at place argument.0.pos) (member (codes "name") (placed_json name_json place argument.0) (member (codes "value") (placed_json json place argument.1) no_members))

abbrev pub arguments_json : Place → Arguments → Json
arguments_json place arguments = json.array (items_of (argument_with value_json place) arguments)

-- a directive, over the JSON of its arguments
abbrev pub directive_node : Place → Positioned Name → Json → Json
directive_node place name arguments = node (codes "Directive") place (member (codes "name") (placed_json name_json place name) (member (codes "arguments") arguments no_members))

abbrev pub directive_json : Place → Directive → Json
directive_json place directive = directive_node place directive.name (arguments_json place directive.arguments)

abbrev pub directives_json : Place → Directives → Json
directives_json place directives = placed_list directive_json place directives

-- ---- types

-- a type that is named
abbrev pub named_type_json : Place → Name → Json
named_type_json place name = node (codes "NamedType") place (member (codes "name") (name_json place name) no_members)

-- a type, or where it may not be null a node with it
abbrev pub marked_json : Bool → Place → Json → Json
marked_json true place type = type
marked_json false place type = node (codes "NonNullType") place (member (codes "type") type no_members)

abbrev pub type_json : Place → TypeTree → Json
type_json place (named name nullable) = marked_json nullable place (named_type_json place name)
type_json place (list_type inner nullable) = marked_json nullable place (node (codes "ListType") place (member (codes "type") (type_json (nowhere place) inner) no_members))

-- ---- variables and input values

-- the members that a variable and an input value end with: the type, the default value, and the JSON of the directives
abbrev pub typed_members : Place → Positioned TypeTree → Option (Positioned Tree) → Json → Members
typed_members place type default directives =
    member (codes "type") (placed_json type_json place type)
    (optional (codes "defaultValue") (placed_json value_json place) default
    (member (codes "directives") directives no_members))
