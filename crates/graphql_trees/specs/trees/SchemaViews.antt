-- The schema trees that the types of a schema file stand for.
-- Source: this project's choice; the trees are those of `Schema`.
use Rattle.std.specs.Prelude.{List, Option, map, option_map, string_bytes}
use Rattle.std.specs.declared.alloc.Global.{Global}
use Rattle.std.specs.declared.string.String.{String}
use Rattle.graphql_tokens.specs.declared.pos.Positioned.{Positioned}
use Rattle.graphql_trees.specs.declared.service.DirectiveDefinition.{DirectiveDefinition}
use Rattle.graphql_trees.specs.declared.service.EnumType.{EnumType}
use Rattle.graphql_trees.specs.declared.service.EnumValueDefinition.{EnumValueDefinition}
use Rattle.graphql_trees.specs.declared.service.FieldDefinition.{FieldDefinition}
use Rattle.graphql_trees.specs.declared.service.InputObjectType.{InputObjectType}
use Rattle.graphql_trees.specs.declared.service.InputValueDefinition.{InputValueDefinition}
use Rattle.graphql_trees.specs.declared.service.InterfaceType.{InterfaceType}
use Rattle.graphql_trees.specs.declared.service.ObjectType.{ObjectType}
use Rattle.graphql_trees.specs.declared.service.SchemaDefinition.{SchemaDefinition}
use Rattle.graphql_trees.specs.declared.service.ServiceDocument.{ServiceDocument}
use Rattle.graphql_trees.specs.declared.service.TypeDefinition.{TypeDefinition}
use Rattle.graphql_trees.specs.declared.service.TypeKind.{TypeKind}
use Rattle.graphql_trees.specs.declared.service.TypeKind.TheVariants as kinds
use Rattle.graphql_trees.specs.declared.service.TypeSystemDefinition.{TypeSystemDefinition}
use Rattle.graphql_trees.specs.declared.service.TypeSystemDefinition.TheVariants as definitions
use Rattle.graphql_trees.specs.declared.service.UnionType.{UnionType}
use Rattle.graphql_syntax.specs.trees.Parts.{placed}
use Rattle.graphql_syntax.specs.trees.PartViews.{const_directives_tree}
use Rattle.graphql_trees.specs.trees.Schema as schema
use Rattle.graphql_syntax.specs.trees.TypeTree.{type_tree}
use Rattle.graphql_syntax.specs.trees.ValueViews.{const_tree}

abbrev pub description_tree : Option (Positioned (String Global)) → schema.Description
description_tree d = option_map (placed string_bytes) d

-- ---- the parts of types

abbrev pub input_value_tree : InputValueDefinition → schema.InputValueDefinition
input_value_tree v = record {
  description = description_tree v.description;
  name = v.name;
  ty = placed type_tree v.ty;
  default_value = option_map (placed const_tree) v.default_value;
  directives = const_directives_tree v.directives.items;
}

abbrev pub input_values_tree : List (Positioned InputValueDefinition) → schema.InputValues
input_values_tree vs = map (placed input_value_tree) vs

abbrev pub field_definition_tree : FieldDefinition → schema.FieldDefinition
field_definition_tree f = record {
  description = description_tree f.description;
  name = f.name;
  arguments = input_values_tree f.arguments.items;
  ty = placed type_tree f.ty;
  directives = const_directives_tree f.directives.items;
}

abbrev pub enum_value_tree : EnumValueDefinition → schema.EnumValueDefinition
enum_value_tree v = record {
  description = description_tree v.description;
  value = v.value;
  directives = const_directives_tree v.directives.items;
}

abbrev pub object_tree : ObjectType → schema.Fields
object_tree o = record { implements = o.implements.items; fields = map (placed field_definition_tree) o.fields.items }

abbrev pub interface_tree : InterfaceType → schema.Fields
interface_tree i = record { implements = i.implements.items; fields = map (placed field_definition_tree) i.fields.items }

abbrev pub union_tree : UnionType → schema.Names
union_tree u = u.members.items

abbrev pub enum_tree : EnumType → List (Positioned schema.EnumValueDefinition)
enum_tree e = map (placed enum_value_tree) e.values.items

abbrev pub input_object_tree : InputObjectType → schema.InputValues
input_object_tree o = input_values_tree o.fields.items

abbrev pub kind_tree : TypeKind → schema.TypeKind
kind_tree kinds.Scalar = schema.scalar
kind_tree (kinds.Object o) = schema.object (object_tree o)
kind_tree (kinds.Interface i) = schema.interface (interface_tree i)
kind_tree (kinds.Union u) = schema.union (union_tree u)
kind_tree (kinds.Enum e) = schema.enumeration (enum_tree e)
kind_tree (kinds.InputObject o) = schema.input_object (input_object_tree o)

-- ---- definitions and extensions

abbrev pub schema_definition_tree : SchemaDefinition → schema.SchemaDefinition
schema_definition_tree s = record {
  description = description_tree s.description;
  extend = s.extend;
  directives = const_directives_tree s.directives.items;
  query = s.query;
  mutation = s.mutation;
  subscription = s.subscription;
}

abbrev pub type_definition_tree : TypeDefinition → schema.TypeDefinition
type_definition_tree t = record {
  extend = t.extend;
  description = description_tree t.description;
  name = t.name;
  directives = const_directives_tree t.directives.items;
  kind = kind_tree t.kind;
}

abbrev pub directive_definition_tree : DirectiveDefinition → schema.DirectiveDefinition
directive_definition_tree d = record {
  description = description_tree d.description;
  name = d.name;
  arguments = input_values_tree d.arguments.items;
  is_repeatable = d.is_repeatable;
  locations = d.locations.items;
}

abbrev pub definition_tree : TypeSystemDefinition → schema.Definition
definition_tree (definitions.Schema s) = schema.schema (placed schema_definition_tree s)
definition_tree (definitions.TypeDef t) = schema.type_def (placed type_definition_tree t)
definition_tree (definitions.Directive d) = schema.directive (placed directive_definition_tree d)

abbrev pub schema_document_tree : ServiceDocument → schema.Document
schema_document_tree d = map definition_tree d.definitions.items
