-- The JSON of schema files.
-- Source: the syntax trees of GraphQL.js, version 16. That a root of a schema has no place is this project's choice: our trees keep that of its name alone.
use Rattle.std.specs.Prelude.{ℕ, List, [], ◌∷◌, Option, Some, None, Bool, true, false, if◌then◌else◌, codes}
use Rattle.graphql_parser.specs.calls.Locations.{location_word}
use Rattle.graphql_parser.specs.calls.Words.{operation_word}
use Rattle.graphql_parser.specs.trees.Parts.{Name}
use Rattle.graphql_parser.specs.trees.Schema.{Description, Names, InputValueDefinition, InputValues, FieldDefinition, EnumValueDefinition, TypeKind, scalar, object, interface, union, enumeration, input_object, SchemaDefinition, TypeDefinition, DirectiveDefinition, Definition, schema, type_def, directive, Document}
use Rattle.graphql_parser.specs.types.DirectiveLocation.{DirectiveLocation}
use Rattle.graphql_parser.specs.types.OperationType.{OperationType}
use Rattle.graphql_parser.specs.types.OperationType.TheVariants.{Query, Mutation, Subscription}
use Rattle.graphql_parser.specs.types.Positioned.{Positioned}
use Rattle.graphql_json.specs.declared.place.Place.{Place}
use Rattle.graphql_json.specs.declared.place.Places.{Places}
use Rattle.graphql_json.specs.nodes.Nodes.{nowhere, no_place, node, document_node, optional, items_of, placed_json, placed_list, stands_before}
use Rattle.graphql_json.specs.nodes.Values.{text_json, name_json, string_json, directives_json, named_type_json, type_json, typed_members}
use Rattle.json.specs.Json as json
use Rattle.json.specs.Json.{Json, Members, no_members, member}

-- a list of types, each by its name
abbrev pub named_types_json : Place → Names → Json
named_types_json place names = placed_list named_type_json place names

-- ---- the parts of types

-- a node that begins with its description, where it has one, and its name
abbrev pub described_node : List ℕ → Place → Description → Positioned Name → Members → Json
described_node kind place description name others =
    node kind place
    (optional (codes "description") (placed_json string_json place) description
    (member (codes "name") (placed_json name_json place name) others))

abbrev pub input_value_json : Place → InputValueDefinition → Json
input_value_json place value =
    described_node (codes "InputValueDefinition") place value.description value.name
    (typed_members place value.ty value.default_value (directives_json place value.directives))

abbrev pub input_values_json : Place → InputValues → Json
input_values_json place values = placed_list input_value_json place values

abbrev pub field_definition_json : Place → FieldDefinition → Json
field_definition_json place field =
    described_node (codes "FieldDefinition") place field.description field.name
    (member (codes "arguments") (input_values_json place field.arguments)
    (member (codes "type") (placed_json type_json place field.ty)
    (member (codes "directives") (directives_json place field.directives) no_members)))

abbrev pub enum_value_json : Place → EnumValueDefinition → Json
enum_value_json place value =
    described_node (codes "EnumValueDefinition") place value.description value.value
    (member (codes "directives") (directives_json place value.directives) no_members)

-- ---- types

-- the kind of a node, of a definition or of an extension
abbrev pub kind_word : TypeKind → Bool → List ℕ
kind_word scalar false = codes "ScalarTypeDefinition"
kind_word scalar true = codes "ScalarTypeExtension"
kind_word (object fields) false = codes "ObjectTypeDefinition"
kind_word (object fields) true = codes "ObjectTypeExtension"
kind_word (interface fields) false = codes "InterfaceTypeDefinition"
kind_word (interface fields) true = codes "InterfaceTypeExtension"
kind_word (union names) false = codes "UnionTypeDefinition"
kind_word (union names) true = codes "UnionTypeExtension"
kind_word (enumeration values) false = codes "EnumTypeDefinition"
kind_word (enumeration values) true = codes "EnumTypeExtension"
kind_word (input_object fields) false = codes "InputObjectTypeDefinition"
kind_word (input_object fields) true = codes "InputObjectTypeExtension"

-- the interfaces of a kind of type that may have some
abbrev pub interfaces : TypeKind → Option Names
interfaces scalar = None
interfaces (object fields) = Some fields.implements
interfaces (interface fields) = Some fields.implements
interfaces (union names) = None
interfaces (enumeration values) = None
interfaces (input_object fields) = None

-- the last member of a type
abbrev pub contents : Place → TypeKind → Members
contents place scalar = no_members
contents place (object fields) = member (codes "fields") (placed_list field_definition_json place fields.fields) no_members
contents place (interface fields) = member (codes "fields") (placed_list field_definition_json place fields.fields) no_members
contents place (union names) = member (codes "types") (named_types_json place names) no_members
contents place (enumeration values) = member (codes "values") (placed_list enum_value_json place values) no_members
contents place (input_object fields) = member (codes "fields") (input_values_json place fields) no_members

abbrev pub type_definition_json : Place → TypeDefinition → Json
type_definition_json place type =
    described_node (kind_word type.kind type.extend) place type.description type.name
    (optional (codes "interfaces") (named_types_json place) (interfaces type.kind)
    (member (codes "directives") (directives_json place type.directives) (contents place type.kind)))

-- ---- schemas

-- a kind of operation, and the name of the type that it begins at
abbrev pub Root : Type 0
Root = OperationType × Positioned Name

abbrev pub root_json : Place → Root → Json
root_json place root =
    node (codes "OperationTypeDefinition") (nowhere place)
    (member (codes "operation") (json.string (operation_word root.0))
    (member (codes "type") (placed_json named_type_json place root.1) no_members))

-- a root, before the first whose place is larger
abbrev pub put_root : Root → List Root → List Root
put_root root [] = root ∷ []
put_root root (first ∷ others) = if stands_before root.1.pos first.1.pos then root ∷ first ∷ others else first ∷ put_root root others

-- a root that may be missing
abbrev pub with_root : OperationType → Option (Positioned Name) → List Root → List Root
with_root kind None roots = roots
with_root kind (Some name) roots = put_root (kind, name) roots

-- The roots in the order of their names' places: that of the text, unless a carriage return without a line feed stands
-- between them.
abbrev pub roots_of : SchemaDefinition → List Root
roots_of definition = with_root Subscription definition.subscription (with_root Mutation definition.mutation (with_root Query definition.query []))

abbrev pub schema_word : Bool → List ℕ
schema_word false = codes "SchemaDefinition"
schema_word true = codes "SchemaExtension"

-- a schema with its roots in this order
abbrev pub schema_node : Place → SchemaDefinition → List Root → Json
schema_node place definition roots =
    node (schema_word definition.extend) place
    (optional (codes "description") (placed_json string_json place) definition.description
    (member (codes "directives") (directives_json place definition.directives)
    (member (codes "operationTypes") (json.array (items_of (root_json place) roots)) no_members)))

abbrev pub schema_definition_json : Place → SchemaDefinition → Json
schema_definition_json place definition = schema_node place definition (roots_of definition)

-- ---- directives

-- a name, as GraphQL.js has it
abbrev pub location_json : Place → DirectiveLocation → Json
location_json place location = text_json (codes "Name") place (codes (location_word location))

abbrev pub directive_definition_json : Place → DirectiveDefinition → Json
directive_definition_json place definition =
    described_node (codes "DirectiveDefinition") place definition.description definition.name
    (member (codes "arguments") (input_values_json place definition.arguments)
    (member (codes "repeatable") (json.boolean definition.is_repeatable)
    (member (codes "locations") (placed_list location_json place definition.locations) no_members)))

-- ---- files

-- a definition or an extension, at its own place
abbrev pub definition_json : Place → Definition → Json
definition_json place (schema definition) = placed_json schema_definition_json place definition
definition_json place (type_def definition) = placed_json type_definition_json place definition
definition_json place (directive definition) = placed_json directive_definition_json place definition

abbrev pub document_json : Place → Document → Json
document_json place document = document_node place (items_of (definition_json place) document)

-- a schema file, with or without the places of its nodes
abbrev pub schema_value : Places → Document → Json
schema_value places document = document_json (no_place places) document
