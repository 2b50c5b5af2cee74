-- Trees of schema files without their places: each place is 0:0.
-- Source: this project's choice.
use Rattle.std.specs.Prelude.{List, map, option_map}
use Rattle.graphql_trees.specs.trees.Schema.{Description, Names, InputValueDefinition, InputValues, FieldDefinition, EnumValueDefinition, Fields, TypeKind, scalar, object, interface, union, enumeration, input_object, TypeDefinition, DirectiveDefinition}
use Rattle.graphql_reading.specs.grammar.Places.{nowhere}
use Rattle.graphql_grammar.specs.grammar.Placeless.{unplaced, bare_node, placeless_directives}
use Rattle.graphql_schemas.specs.grammar.Schema.{Root, Schema}
use Rattle.graphql_schemas.specs.grammar.SchemaFile.{Definition, schema, type_def, directive}

abbrev pub placeless_description : Description → Description
placeless_description d = option_map bare_node d

abbrev pub placeless_names : Names → Names
placeless_names names = map bare_node names

abbrev pub placeless_input_value : InputValueDefinition → InputValueDefinition
placeless_input_value v = record {
  description = placeless_description v.description;
  name = bare_node v.name;
  ty = bare_node v.ty;
  default_value = option_map bare_node v.default_value;
  directives = placeless_directives v.directives;
}

abbrev pub placeless_input_values : InputValues → InputValues
placeless_input_values vs = map (unplaced placeless_input_value) vs

abbrev pub placeless_field : FieldDefinition → FieldDefinition
placeless_field f = record {
  description = placeless_description f.description;
  name = bare_node f.name;
  arguments = placeless_input_values f.arguments;
  ty = bare_node f.ty;
  directives = placeless_directives f.directives;
}

abbrev pub placeless_enum_value : EnumValueDefinition → EnumValueDefinition
placeless_enum_value v = record {
  description = placeless_description v.description;
  value = bare_node v.value;
  directives = placeless_directives v.directives;
}

abbrev pub placeless_fields : Fields → Fields
placeless_fields f = record { implements = placeless_names f.implements; fields = map (unplaced placeless_field) f.fields }

abbrev pub placeless_kind : TypeKind → TypeKind
placeless_kind scalar = scalar
placeless_kind (object fields) = object (placeless_fields fields)
placeless_kind (interface fields) = interface (placeless_fields fields)
placeless_kind (union names) = union (placeless_names names)
placeless_kind (enumeration values) = enumeration (map (unplaced placeless_enum_value) values)
placeless_kind (input_object values) = input_object (placeless_input_values values)

abbrev pub placeless_type : TypeDefinition → TypeDefinition
placeless_type t = record {
  extend = t.extend;
  description = placeless_description t.description;
  name = bare_node t.name;
  directives = placeless_directives t.directives;
  kind = placeless_kind t.kind;
}

abbrev pub placeless_root : Root → Root
placeless_root r = record { kind = r.kind; pos = nowhere; name = bare_node r.name }

abbrev pub placeless_schema : Schema → Schema
placeless_schema s = record {
  description = placeless_description s.description;
  extend = s.extend;
  directives = placeless_directives s.directives;
  roots = map placeless_root s.roots;
}

abbrev pub placeless_directive_definition : DirectiveDefinition → DirectiveDefinition
placeless_directive_definition d = record {
  description = placeless_description d.description;
  name = bare_node d.name;
  arguments = placeless_input_values d.arguments;
  is_repeatable = d.is_repeatable;
  locations = map bare_node d.locations;
}

abbrev pub placeless_definition : Definition → Definition
placeless_definition (schema s) = schema (unplaced placeless_schema s)
placeless_definition (type_def t) = type_def (unplaced placeless_type t)
placeless_definition (directive d) = directive (unplaced placeless_directive_definition d)

abbrev pub placeless_definitions : List Definition → List Definition
placeless_definitions ds = map placeless_definition ds
