-- What is shown of the definitions of a schema file, other than its schemas, is shown of them without places, too.
use Rattle.std.proofs.Common.{◌≡◌, List, [], ◌∷◌, ◌++◌, map, codes, refl, ap, ap₂}
use Rattle.graphql_tokens.specs.declared.pos.Positioned.{Positioned}
use Rattle.graphql_tokens.specs.tokens.Token.{Bare}
use Rattle.graphql_syntax.specs.trees.Parts.{Name}
use Rattle.graphql_trees.specs.trees.Schema.{Description, InputValueDefinition, InputValues, FieldDefinition, EnumValueDefinition, TypeKind, scalar, object, interface, union, enumeration, input_object, TypeDefinition, DirectiveDefinition}
use Rattle.graphql_grammar.specs.grammar.Placeless.{unplaced, bare_node}
use Rattle.graphql_schemas.specs.grammar.Placeless.{placeless_description, placeless_input_value, placeless_input_values, placeless_field, placeless_enum_value, placeless_kind, placeless_type, placeless_directive_definition}
use Rattle.graphql_printer.specs.inner.Shown.{sign, word, shown_node, shown_type}
use Rattle.graphql_printer.specs.inner.ShownSchemas.{shown_text, shown_description, shown_name, shown_led, shown_input_value, shown_parameters, shown_field, shown_enum_value, kind_word, shown_interfaces, shown_contents, shown_extend, shown_type_definition, shown_repeatable, shown_location, shown_directive_definition}
use Rattle.graphql_printer.proofs.PlacelessRequests.{joined, flat-same, between-same, part-same, directives-same, default-same}

pub description-same : (d : Description) → shown_description (placeless_description d) ≡ shown_description d
description-same d = part-same bare_node (shown_node shown_text) (λ text. refl) d

led-same : {A : Type 0} (lead mark : Bare) (f : A → A) (shown : A → List Bare) → ((a : A) → shown (f a) ≡ shown a) → (list : List A) → shown_led lead mark shown (map f list) ≡ shown_led lead mark shown list
led-same lead mark f shown e [] = refl
led-same lead mark f shown e (a ∷ others) =
    ap (λ (l : List Bare). lead ∷ l) (joined (e a) (flat-same f (λ other. mark ∷ shown other) (λ other. ap (λ (l : List Bare). mark ∷ l) (e other)) others))

names-same : (lead mark : Bare) (names : List (Positioned Name)) → shown_led lead mark (shown_node shown_name) (map bare_node names) ≡ shown_led lead mark (shown_node shown_name) names
names-same lead mark names = led-same lead mark bare_node (shown_node shown_name) (λ name. refl) names

-- ---- fields and values

input_value-same : (v : InputValueDefinition) → shown_input_value (placeless_input_value v) ≡ shown_input_value v
input_value-same v =
    joined (description-same v.description)
    (ap (λ (l : List Bare). word v.name.node ∷ sign ":" ∷ (shown_type v.ty.node ++ l)) (joined (default-same v.default_value) (directives-same v.directives)))

parameters-same : (values : InputValues) → shown_parameters (placeless_input_values values) ≡ shown_parameters values
parameters-same values = between-same "(" ")" (unplaced placeless_input_value) (shown_node shown_input_value) (λ v. input_value-same v.node) values

field-same : (f : FieldDefinition) → shown_field (placeless_field f) ≡ shown_field f
field-same f =
    joined (description-same f.description)
    (ap (λ (l : List Bare). word f.name.node ∷ l) (joined (parameters-same f.arguments) (ap (λ (l : List Bare). sign ":" ∷ (shown_type f.ty.node ++ l)) (directives-same f.directives))))

enum_value-same : (v : EnumValueDefinition) → shown_enum_value (placeless_enum_value v) ≡ shown_enum_value v
enum_value-same v = joined (description-same v.description) (ap (λ (l : List Bare). word v.value.node ∷ l) (directives-same v.directives))

-- ---- types

word-same : (kind : TypeKind) → kind_word (placeless_kind kind) ≡ kind_word kind
word-same scalar = refl
word-same (object fields) = refl
word-same (interface fields) = refl
word-same (union names) = refl
word-same (enumeration values) = refl
word-same (input_object values) = refl

interfaces-same : (kind : TypeKind) → shown_interfaces (placeless_kind kind) ≡ shown_interfaces kind
interfaces-same scalar = refl
interfaces-same (object fields) = names-same (word (codes "implements")) (sign "&") fields.implements
interfaces-same (interface fields) = names-same (word (codes "implements")) (sign "&") fields.implements
interfaces-same (union names) = refl
interfaces-same (enumeration values) = refl
interfaces-same (input_object values) = refl

contents-same : (kind : TypeKind) → shown_contents (placeless_kind kind) ≡ shown_contents kind
contents-same scalar = refl
contents-same (object fields) = between-same "{" "}" (unplaced placeless_field) (shown_node shown_field) (λ f. field-same f.node) fields.fields
contents-same (interface fields) = between-same "{" "}" (unplaced placeless_field) (shown_node shown_field) (λ f. field-same f.node) fields.fields
contents-same (union names) = names-same (sign "=") (sign "|") names
contents-same (enumeration values) = between-same "{" "}" (unplaced placeless_enum_value) (shown_node shown_enum_value) (λ v. enum_value-same v.node) values
contents-same (input_object values) = between-same "{" "}" (unplaced placeless_input_value) (shown_node shown_input_value) (λ v. input_value-same v.node) values

pub type-same : (t : TypeDefinition) → shown_type_definition (placeless_type t) ≡ shown_type_definition t
type-same t =
    joined (description-same t.description)
    (ap (λ (l : List Bare). shown_extend t.extend ++ l)
    (ap₂ (λ (w : List _) (l : List Bare). word w ∷ word t.name.node ∷ l) (word-same t.kind) (joined (interfaces-same t.kind) (joined (directives-same t.directives) (contents-same t.kind)))))

-- ---- directives

pub directive-definition-same : (d : DirectiveDefinition) → shown_directive_definition (placeless_directive_definition d) ≡ shown_directive_definition d
directive-definition-same d =
    joined (description-same d.description)
    (ap (λ (l : List Bare). word (codes "directive") ∷ sign "@" ∷ word d.name.node ∷ l)
    (joined (parameters-same d.arguments) (ap (λ (l : List Bare). shown_repeatable d.is_repeatable ++ l) (led-same (word (codes "on")) (sign "|") bare_node (shown_node shown_location) (λ location. refl) d.locations))))
