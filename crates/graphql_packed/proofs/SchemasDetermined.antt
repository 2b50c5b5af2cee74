-- The bytes of schema files determine them.
use Rattle.std.proofs.Common.{◌≡◌, ℕ, Bool, false, Option, List, [], ◌++◌, codes, refl, ap}
use Rattle.std.proofs.lemmas.Slice.Eq.{bytes_eq-Decides}
use Rattle.std.specs.Str.{bytes_eq}
use Rattle.graphql_parser.specs.trees.Parts.{Name, Directives}
use Rattle.graphql_parser.specs.trees.TypeTree.{TypeTree}
use Rattle.graphql_parser.specs.trees.ValueTree.{Tree}
use Rattle.graphql_parser.specs.calls.Locations.{location_word}
use Rattle.graphql_parser.specs.trees.Schema.{Description, Names, InputValueDefinition, InputValues, FieldDefinition, EnumValueDefinition, Fields, TypeKind, scalar, object, interface, union, enumeration, input_object, SchemaDefinition, TypeDefinition, DirectiveDefinition, Definition, schema, type_def, directive, Document}
use Rattle.graphql_parser.specs.types.DirectiveLocation.{DirectiveLocation}
use Rattle.graphql_parser.specs.types.DirectiveLocation.TheVariants as locations
use Rattle.graphql_parser.specs.types.Positioned.{Positioned}
use Rattle.graphql_packed.specs.packed.Bytes.{Bytes, word_bytes, optional_bytes}
use Rattle.graphql_packed.specs.packed.Schemas.{input_value_bytes, input_values_bytes, field_definition_bytes, enum_value_bytes, fields_bytes, kind_bytes, type_definition_bytes, schema_definition_bytes, location_bytes, directive_definition_bytes, definition_bytes, schema_bytes}
use Rattle.graphql_packed.proofs.Determined.{Determines, apart, only_by, both_determine, of_part, made_of, flag_determined, text_determined, word_determined, node_determined, whole_option, whole_list}
use Rattle.graphql_packed.proofs.ValuesDetermined.{value_determined, directives_determined, type_determined}

-- ---- the parts of types

description_determined : Determines (optional_bytes word_bytes) (λ description. description)
description_determined = whole_option word_determined

input_value_determined : Determines input_value_bytes (λ value. value)
input_value_determined = made_of {B = InputValueDefinition} (λ (x : (((Description × Positioned Name) × Positioned TypeTree) × Option (Positioned Tree)) × Directives).
    record { description = x.0.0.0.0; name = x.0.0.0.1; ty = x.0.0.1; default_value = x.0.1; directives = x.1 })
    (both_determine (both_determine (both_determine (both_determine
    (of_part (λ (value : InputValueDefinition). value.description) description_determined)
    (of_part (λ (value : InputValueDefinition). value.name) word_determined))
    (of_part (λ (value : InputValueDefinition). value.ty) (node_determined type_determined)))
    (of_part (λ (value : InputValueDefinition). value.default_value) (whole_option (node_determined value_determined))))
    (of_part (λ (value : InputValueDefinition). value.directives) directives_determined))

input_values_determined : Determines input_values_bytes (λ values. values)
input_values_determined = whole_list (node_determined input_value_determined)

field_determined : Determines field_definition_bytes (λ field. field)
field_determined = made_of {B = FieldDefinition} (λ (x : (((Description × Positioned Name) × InputValues) × Positioned TypeTree) × Directives).
    record { description = x.0.0.0.0; name = x.0.0.0.1; arguments = x.0.0.1; ty = x.0.1; directives = x.1 })
    (both_determine (both_determine (both_determine (both_determine
    (of_part (λ (field : FieldDefinition). field.description) description_determined)
    (of_part (λ (field : FieldDefinition). field.name) word_determined))
    (of_part (λ (field : FieldDefinition). field.arguments) input_values_determined))
    (of_part (λ (field : FieldDefinition). field.ty) (node_determined type_determined)))
    (of_part (λ (field : FieldDefinition). field.directives) directives_determined))

enum_value_determined : Determines enum_value_bytes (λ value. value)
enum_value_determined = made_of {B = EnumValueDefinition} (λ (x : (Description × Positioned Name) × Directives). record { description = x.0.0; value = x.0.1; directives = x.1 })
    (both_determine (both_determine
    (of_part (λ (value : EnumValueDefinition). value.description) description_determined)
    (of_part (λ (value : EnumValueDefinition). value.value) word_determined))
    (of_part (λ (value : EnumValueDefinition). value.directives) directives_determined))

fields_determined : Determines fields_bytes (λ fields. fields)
fields_determined = made_of {B = Fields} (λ (x : Names × List (Positioned FieldDefinition)). record { implements = x.0; fields = x.1 })
    (both_determine (of_part (λ (fields : Fields). fields.implements) (whole_list word_determined)) (of_part (λ (fields : Fields). fields.fields) (whole_list (node_determined field_determined))))

-- ---- types

kind_same : (a b : TypeKind) (r s : Bytes) → kind_bytes a ++ r ≡ kind_bytes b ++ s → (a ≡ b) × (r ≡ s)
kind_same scalar scalar r s e = (refl, cc)
kind_same (object a) (object b) r s e = let same = fields_determined.by a b r s (cc) in (ap object same.0, same.1)
kind_same (interface a) (interface b) r s e = let same = fields_determined.by a b r s (cc) in (ap interface same.0, same.1)
kind_same (union a) (union b) r s e = let same = (whole_list word_determined).by a b r s (cc) in (ap union same.0, same.1)
kind_same (enumeration a) (enumeration b) r s e = let same = (whole_list (node_determined enum_value_determined)).by a b r s (cc) in (ap enumeration same.0, same.1)
kind_same (input_object a) (input_object b) r s e = let same = input_values_determined.by a b r s (cc) in (ap input_object same.0, same.1)
kind_same a b r s e = apart (kind_bytes a ++ r) (kind_bytes b ++ s) refl e

kind_determined : Determines kind_bytes (λ kind. kind)
kind_determined = record { by = kind_same }

type_definition_determined : Determines type_definition_bytes (λ type. type)
type_definition_determined = made_of {B = TypeDefinition} (λ (x : (((Bool × Description) × Positioned Name) × Directives) × TypeKind).
    record { extend = x.0.0.0.0; description = x.0.0.0.1; name = x.0.0.1; directives = x.0.1; kind = x.1 })
    (both_determine (both_determine (both_determine (both_determine
    (of_part (λ (type : TypeDefinition). type.extend) flag_determined)
    (of_part (λ (type : TypeDefinition). type.description) description_determined))
    (of_part (λ (type : TypeDefinition). type.name) word_determined))
    (of_part (λ (type : TypeDefinition). type.directives) directives_determined))
    (of_part (λ (type : TypeDefinition). type.kind) kind_determined))

-- ---- schemas and directives

schema_definition_determined : Determines schema_definition_bytes (λ definition. definition)
schema_definition_determined = made_of {B = SchemaDefinition} (λ (x : ((((Description × Bool) × Directives) × Option (Positioned Name)) × Option (Positioned Name)) × Option (Positioned Name)).
    record { description = x.0.0.0.0.0; extend = x.0.0.0.0.1; directives = x.0.0.0.1; query = x.0.0.1; mutation = x.0.1; subscription = x.1 })
    (both_determine (both_determine (both_determine (both_determine (both_determine
    (of_part (λ (definition : SchemaDefinition). definition.description) description_determined)
    (of_part (λ (definition : SchemaDefinition). definition.extend) flag_determined))
    (of_part (λ (definition : SchemaDefinition). definition.directives) directives_determined))
    (of_part (λ (definition : SchemaDefinition). definition.query) (whole_option word_determined)))
    (of_part (λ (definition : SchemaDefinition). definition.mutation) (whole_option word_determined)))
    (of_part (λ (definition : SchemaDefinition). definition.subscription) (whole_option word_determined)))

words_apart : {P : Type 0} (xs ys : List ℕ) → bytes_eq xs ys ≡ false → xs ≡ ys → P
words_apart xs ys differ e = let same = (bytes_eq-Decides xs ys).1 e in absurd cc

location_same : (a b : DirectiveLocation) → codes (location_word a) ≡ codes (location_word b) → a ≡ b
location_same locations.Query locations.Query e = refl
location_same locations.Mutation locations.Mutation e = refl
location_same locations.Subscription locations.Subscription e = refl
location_same locations.Field locations.Field e = refl
location_same locations.FragmentDefinition locations.FragmentDefinition e = refl
location_same locations.FragmentSpread locations.FragmentSpread e = refl
location_same locations.InlineFragment locations.InlineFragment e = refl
location_same locations.Schema locations.Schema e = refl
location_same locations.Scalar locations.Scalar e = refl
location_same locations.Object locations.Object e = refl
location_same locations.FieldDefinition locations.FieldDefinition e = refl
location_same locations.ArgumentDefinition locations.ArgumentDefinition e = refl
location_same locations.Interface locations.Interface e = refl
location_same locations.Union locations.Union e = refl
location_same locations.Enum locations.Enum e = refl
location_same locations.EnumValue locations.EnumValue e = refl
location_same locations.InputObject locations.InputObject e = refl
location_same locations.InputFieldDefinition locations.InputFieldDefinition e = refl
location_same locations.VariableDefinition locations.VariableDefinition e = refl
location_same a b e = words_apart (codes (location_word a)) (codes (location_word b)) refl e

location_determined : Determines location_bytes (λ location. location)
location_determined = record {
  by = λ a b r s e.
      let same = text_determined.by (codes (location_word a)) (codes (location_word b)) r s e in
      (location_same a b same.0, same.1);
}

directive_definition_determined : Determines directive_definition_bytes (λ definition. definition)
directive_definition_determined = made_of {B = DirectiveDefinition} (λ (x : (((Description × Positioned Name) × InputValues) × Bool) × List (Positioned DirectiveLocation)).
    record { description = x.0.0.0.0; name = x.0.0.0.1; arguments = x.0.0.1; is_repeatable = x.0.1; locations = x.1 })
    (both_determine (both_determine (both_determine (both_determine
    (of_part (λ (definition : DirectiveDefinition). definition.description) description_determined)
    (of_part (λ (definition : DirectiveDefinition). definition.name) word_determined))
    (of_part (λ (definition : DirectiveDefinition). definition.arguments) input_values_determined))
    (of_part (λ (definition : DirectiveDefinition). definition.is_repeatable) flag_determined))
    (of_part (λ (definition : DirectiveDefinition). definition.locations) (whole_list (node_determined location_determined))))

-- ---- files

definition_same : (a b : Definition) (r s : Bytes) → definition_bytes a ++ r ≡ definition_bytes b ++ s → (a ≡ b) × (r ≡ s)
definition_same (schema a) (schema b) r s e = let same = (node_determined schema_definition_determined).by a b r s (cc) in (ap schema same.0, same.1)
definition_same (type_def a) (type_def b) r s e = let same = (node_determined type_definition_determined).by a b r s (cc) in (ap type_def same.0, same.1)
definition_same (directive a) (directive b) r s e = let same = (node_determined directive_definition_determined).by a b r s (cc) in (ap directive same.0, same.1)
definition_same a b r s e = apart (definition_bytes a ++ r) (definition_bytes b ++ s) refl e

definition_determined : Determines definition_bytes (λ definition. definition)
definition_determined = record { by = definition_same }

pub schema_determined : Determines schema_bytes (λ document. document)
schema_determined = whole_list definition_determined

-- no other schema file
pub only_schema : (whole : Bytes) (a b : Document) (more : Bytes) → whole ≡ schema_bytes a → whole ≡ schema_bytes b ++ more → (b ≡ a) × (more ≡ [])
only_schema = only_by schema_determined
