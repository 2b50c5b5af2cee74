-- A derived clone, each of whose parts is a clone, has the tree of the whole.
use Rattle.std.proofs.Common.{◌≡◌, List, map}
use Rattle.std.specs.List.{AllZip}
use Rattle.std.specs.Prelude.{string_bytes}
use Rattle.graphql_tokens.specs.declared.pos.Positioned.{Positioned}
use Rattle.graphql_syntax.specs.trees.Parts.{placed}
use Rattle.graphql_syntax.specs.trees.PartViews.{const_directive_tree}
use Rattle.graphql_syntax.specs.trees.TypeTree.{type_tree}
use Rattle.graphql_syntax.specs.trees.ValueViews.{const_tree}
use Rattle.graphql_syntax.proofs.Clones.{same_placed, same_node, same_list, same_nodes, same_option, same_optional_node, same_trees}
use Rattle.graphql_trees.specs.declared.service.DirectiveDefinition.{DirectiveDefinition}
use Rattle.graphql_trees.specs.declared.service.EnumType.{EnumType}
use Rattle.graphql_trees.specs.declared.service.EnumValueDefinition.{EnumValueDefinition}
use Rattle.graphql_trees.specs.declared.service.FieldDefinition.{FieldDefinition}
use Rattle.graphql_trees.specs.declared.service.InputObjectType.{InputObjectType}
use Rattle.graphql_trees.specs.declared.service.InputValueDefinition.{InputValueDefinition}
use Rattle.graphql_trees.specs.declared.service.InterfaceType.{InterfaceType}
use Rattle.graphql_trees.specs.declared.service.ObjectType.{ObjectType}
use Rattle.graphql_trees.specs.declared.service.SchemaDefinition.{SchemaDefinition}
use Rattle.graphql_trees.specs.declared.service.TypeDefinition.{TypeDefinition}
use Rattle.graphql_trees.specs.declared.service.UnionType.{UnionType}
use Rattle.graphql_trees.specs.contracts.service.DirectiveDefinitionClone.TheImpl as directive
use Rattle.graphql_trees.specs.contracts.service.EnumTypeClone.TheImpl as enum
use Rattle.graphql_trees.specs.contracts.service.EnumValueDefinitionClone.TheImpl as enum_value
use Rattle.graphql_trees.specs.contracts.service.FieldDefinitionClone.TheImpl as field
use Rattle.graphql_trees.specs.contracts.service.InputObjectTypeClone.TheImpl as input_object
use Rattle.graphql_trees.specs.contracts.service.InputValueDefinitionClone.TheImpl as input_value
use Rattle.graphql_trees.specs.contracts.service.InterfaceTypeClone.TheImpl as interface
use Rattle.graphql_trees.specs.contracts.service.ObjectTypeClone.TheImpl as object
use Rattle.graphql_trees.specs.contracts.service.SchemaDefinitionClone.TheImpl as schema
use Rattle.graphql_trees.specs.contracts.service.TypeDefinitionClone.TheImpl as type_definition
use Rattle.graphql_trees.specs.contracts.service.UnionTypeClone.TheImpl as union
use Rattle.graphql_trees.specs.trees.SchemaViews.{directive_definition_tree, enum_tree, enum_value_tree, field_definition_tree, input_object_tree, input_value_tree, interface_tree, object_tree, schema_definition_tree, type_definition_tree, union_tree}

-- ---- the parts of types

pub same_enum_value : (x y : EnumValueDefinition) → enum_value.is_clone-value.it x y → enum_value_tree y ≡ enum_value_tree x
same_enum_value x y clone = λ i. record {
  description = same_option string_bytes x.description y.description clone.0 i;
  value = same_node x.value y.value clone.1.0 i;
  directives = same_list const_directive_tree x.directives.items y.directives.items clone.1.1.0 i;
}

pub same_input_value : (x y : InputValueDefinition) → input_value.is_clone-value.it x y → input_value_tree y ≡ input_value_tree x
same_input_value x y clone = λ i. record {
  description = same_option string_bytes x.description y.description clone.0 i;
  name = same_node x.name y.name clone.1.0 i;
  ty = same_placed type_tree x.ty y.ty clone.1.1.0 i;
  default_value = same_option const_tree x.default_value y.default_value clone.1.1.1.0 i;
  directives = same_list const_directive_tree x.directives.items y.directives.items clone.1.1.1.1.0 i;
}

pub same_field : (x y : FieldDefinition) → field.is_clone-value.it x y → field_definition_tree y ≡ field_definition_tree x
same_field x y clone = λ i. record {
  description = same_option string_bytes x.description y.description clone.0 i;
  name = same_node x.name y.name clone.1.0 i;
  arguments = same_trees input_value_tree input_value.is_clone-value.it same_input_value x.arguments.items y.arguments.items clone.1.1.0.0 i;
  ty = same_placed type_tree x.ty y.ty clone.1.1.1.0 i;
  directives = same_list const_directive_tree x.directives.items y.directives.items clone.1.1.1.1.0 i;
}

same_fields : (xs ys : List (Positioned FieldDefinition)) → AllZip (λ x y. (y.pos ≡ x.pos) × field.is_clone-value.it x.node y.node) xs ys →
    map (placed field_definition_tree) ys ≡ map (placed field_definition_tree) xs
same_fields = same_trees field_definition_tree field.is_clone-value.it same_field

pub same_object : (x y : ObjectType) → object.is_clone-value.it x y → object_tree y ≡ object_tree x
same_object x y clone = λ i. record {
  implements = same_nodes x.implements.items y.implements.items clone.0.0 i;
  fields = same_fields x.fields.items y.fields.items clone.1.0 i;
}

pub same_interface : (x y : InterfaceType) → interface.is_clone-value.it x y → interface_tree y ≡ interface_tree x
same_interface x y clone = λ i. record {
  implements = same_nodes x.implements.items y.implements.items clone.0.0 i;
  fields = same_fields x.fields.items y.fields.items clone.1.0 i;
}

pub same_union : (x y : UnionType) → union.is_clone-value.it x y → union_tree y ≡ union_tree x
same_union x y clone = same_nodes x.members.items y.members.items clone.0

pub same_enum : (x y : EnumType) → enum.is_clone-value.it x y → enum_tree y ≡ enum_tree x
same_enum x y clone = same_trees enum_value_tree enum_value.is_clone-value.it same_enum_value x.values.items y.values.items clone.0

pub same_input_object : (x y : InputObjectType) → input_object.is_clone-value.it x y → input_object_tree y ≡ input_object_tree x
same_input_object x y clone = same_trees input_value_tree input_value.is_clone-value.it same_input_value x.fields.items y.fields.items clone.0

-- ---- definitions and extensions

pub same_schema : (x y : SchemaDefinition) → schema.is_clone-value.it x y → schema_definition_tree y ≡ schema_definition_tree x
same_schema x y clone = λ i. record {
  description = same_option string_bytes x.description y.description clone.0 i;
  extend = clone.1.0 i;
  directives = same_list const_directive_tree x.directives.items y.directives.items clone.1.1.0.0 i;
  query = same_optional_node x.query y.query clone.1.1.1.0 i;
  mutation = same_optional_node x.mutation y.mutation clone.1.1.1.1.0 i;
  subscription = same_optional_node x.subscription y.subscription clone.1.1.1.1.1 i;
}

pub same_type : (x y : TypeDefinition) → type_definition.is_clone-value.it x y → type_definition_tree y ≡ type_definition_tree x
same_type x y clone = λ i. record {
  extend = clone.0 i;
  description = same_option string_bytes x.description y.description clone.1.0 i;
  name = same_node x.name y.name clone.1.1.0 i;
  directives = same_list const_directive_tree x.directives.items y.directives.items clone.1.1.1.0.0 i;
  kind = clone.1.1.1.1 i;
}

pub same_directive : (x y : DirectiveDefinition) → directive.is_clone-value.it x y → directive_definition_tree y ≡ directive_definition_tree x
same_directive x y clone = λ i. record {
  description = same_option string_bytes x.description y.description clone.0 i;
  name = same_node x.name y.name clone.1.0 i;
  arguments = same_trees input_value_tree input_value.is_clone-value.it same_input_value x.arguments.items y.arguments.items clone.1.1.0.0 i;
  is_repeatable = clone.1.1.1.0 i;
  locations = same_nodes x.locations.items y.locations.items clone.1.1.1.1.0 i;
}
