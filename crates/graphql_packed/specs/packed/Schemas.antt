-- The bytes of schema files.
-- Source: this project's choice.
use Rattle.std.specs.Prelude.{◌++◌, codes}
use Rattle.graphql_parser.specs.calls.Locations.{location_word}
use Rattle.graphql_parser.specs.trees.Schema.{InputValueDefinition, InputValues, FieldDefinition, EnumValueDefinition, Fields, TypeKind, scalar, object, interface, union, enumeration, input_object, SchemaDefinition, TypeDefinition, DirectiveDefinition, Definition, schema, type_def, directive, Document}
use Rattle.graphql_parser.specs.types.DirectiveLocation.{DirectiveLocation}
use Rattle.graphql_packed.specs.packed.Bytes.{Bytes, choice, flag, text_bytes, node_bytes, word_bytes, optional_bytes, list_bytes}
use Rattle.graphql_packed.specs.packed.Values.{value_bytes, directives_bytes, type_bytes}

-- ---- the parts of types

abbrev pub input_value_bytes : InputValueDefinition → Bytes
input_value_bytes value =
    optional_bytes word_bytes value.description ++ word_bytes value.name ++ node_bytes type_bytes value.ty ++ optional_bytes (node_bytes value_bytes) value.default_value ++ directives_bytes value.directives

abbrev pub input_values_bytes : InputValues → Bytes
input_values_bytes values = list_bytes (node_bytes input_value_bytes) values

abbrev pub field_definition_bytes : FieldDefinition → Bytes
field_definition_bytes field =
    optional_bytes word_bytes field.description ++ word_bytes field.name ++ input_values_bytes field.arguments ++ node_bytes type_bytes field.ty ++ directives_bytes field.directives

abbrev pub enum_value_bytes : EnumValueDefinition → Bytes
enum_value_bytes value = optional_bytes word_bytes value.description ++ word_bytes value.value ++ directives_bytes value.directives

-- ---- types

-- an object type or an interface: the interfaces that it has, and its fields
abbrev pub fields_bytes : Fields → Bytes
fields_bytes fields = list_bytes word_bytes fields.implements ++ list_bytes (node_bytes field_definition_bytes) fields.fields

-- a kind of type: which it is, and what a type of that kind has
abbrev pub kind_bytes : TypeKind → Bytes
kind_bytes scalar = choice 0
kind_bytes (object fields) = choice 1 ++ fields_bytes fields
kind_bytes (interface fields) = choice 2 ++ fields_bytes fields
kind_bytes (union names) = choice 3 ++ list_bytes word_bytes names
kind_bytes (enumeration values) = choice 4 ++ list_bytes (node_bytes enum_value_bytes) values
kind_bytes (input_object fields) = choice 5 ++ input_values_bytes fields

abbrev pub type_definition_bytes : TypeDefinition → Bytes
type_definition_bytes type =
    flag type.extend ++ optional_bytes word_bytes type.description ++ word_bytes type.name ++ directives_bytes type.directives ++ kind_bytes type.kind

-- ---- schemas and directives

-- the roots are the names of the types that operations begin at
abbrev pub schema_definition_bytes : SchemaDefinition → Bytes
schema_definition_bytes definition =
    optional_bytes word_bytes definition.description ++ flag definition.extend ++ directives_bytes definition.directives
    ++ optional_bytes word_bytes definition.query ++ optional_bytes word_bytes definition.mutation ++ optional_bytes word_bytes definition.subscription

-- a location by its name
abbrev pub location_bytes : DirectiveLocation → Bytes
location_bytes location = text_bytes (codes (location_word location))

abbrev pub directive_definition_bytes : DirectiveDefinition → Bytes
directive_definition_bytes definition =
    optional_bytes word_bytes definition.description ++ word_bytes definition.name ++ input_values_bytes definition.arguments ++ flag definition.is_repeatable ++ list_bytes (node_bytes location_bytes) definition.locations

-- ---- files

-- a definition or an extension: which kind it is of, and the node
abbrev pub definition_bytes : Definition → Bytes
definition_bytes (schema definition) = choice 0 ++ node_bytes schema_definition_bytes definition
definition_bytes (type_def definition) = choice 1 ++ node_bytes type_definition_bytes definition
definition_bytes (directive definition) = choice 2 ++ node_bytes directive_definition_bytes definition

-- a schema file: its definitions and extensions
abbrev pub schema_bytes : Document → Bytes
schema_bytes document = list_bytes definition_bytes document
