-- Definitions and extensions of types, and their places (GraphQL October 2021, sections 3.4 to 3.10).
use Rattle.std.specs.Prelude.{Bool, true, false, Option, None, List, []}
use Rattle.graphql_tokens.specs.declared.pos.Positioned.{Positioned}
use Rattle.graphql_tokens.specs.tokens.Edition.{Edition}
use Rattle.graphql_tokens.specs.tokens.Token.{Token}
use Rattle.graphql_syntax.specs.trees.Parts.{Name, Directives}
use Rattle.graphql_trees.specs.trees.Schema.{Description, Names, FieldDefinition, TypeKind, scalar, object, interface, union, enumeration, input_object, Fields, TypeDefinition}
use Rattle.graphql_grammar.specs.grammar.Arguments.{a_directive, directives}
use Rattle.graphql_reading.specs.grammar.Fronts.{Grammar}
use Rattle.graphql_reading.specs.grammar.Limits.{Limits}
use Rattle.graphql_reading.specs.grammar.Places.{at, name_of}
use Rattle.graphql_reading.specs.grammar.Relations.{Rel, one, ◌⨾◌, ◌∪◌, mapped, plus, opt, given}
use Rattle.graphql_reading.specs.grammar.Tests.{keyword, any_name}
use Rattle.graphql_schemas.specs.grammar.Descriptions.{a_description, described}
use Rattle.graphql_schemas.specs.grammar.Fields.{fields}
use Rattle.graphql_schemas.specs.grammar.InputValues.{input_fields}
use Rattle.graphql_schemas.specs.grammar.Members.{implements, members, enum_values}
use Prim.Native.String.{String}

-- ---- the optional parts of a body

-- directives, and a list
abbrev pub parts_of : {A : Type 0} → Directives × Option (List A) → Directives × List A
parts_of (directives, list) = (directives, given list)

-- Directives[Const]? P?
abbrev pub parts : {A : Type 0} → Edition → Limits → Rel (List A) → Rel (Directives × List A)
parts edition limits p = mapped parts_of (directives edition false limits.values ⨾ opt p)

abbrev pub list_alone : {A : Type 0} → List A → Directives × List A
list_alone list = ([], list)

-- The same with one part at least, by the first that is there: Directives[Const] P? | P
abbrev pub some_parts : {A : Type 0} → Edition → Limits → Rel (List A) → Rel (Directives × List A)
some_parts edition limits p = mapped parts_of (plus (a_directive edition false limits.values) ⨾ opt p) ∪ mapped list_alone p

-- interfaces, directives and fields
abbrev pub Members : Type 0
Members = Names × (Directives × List (Positioned FieldDefinition))

abbrev pub members_of : Option Names × (Directives × List (Positioned FieldDefinition)) → Members
members_of (interfaces, parts) = (given interfaces, parts)

-- ImplementsInterfaces? Directives[Const]? FieldsDefinition?
abbrev pub field_parts : Edition → Grammar Members
field_parts edition limits = mapped members_of (opt implements ⨾ parts edition limits (fields edition limits))

abbrev pub no_interfaces : Directives × List (Positioned FieldDefinition) → Members
no_interfaces parts = ([], parts)

-- The same with one part at least, by the first that is there:
-- ImplementsInterfaces Directives[Const]? FieldsDefinition? | Directives[Const] FieldsDefinition? | FieldsDefinition
abbrev pub some_field_parts : Edition → Grammar Members
some_field_parts edition limits = (implements ⨾ parts edition limits (fields edition limits)) ∪ mapped no_interfaces (some_parts edition limits (fields edition limits))

-- ---- bodies

-- what a body says after its name: directives, and the kind of the type
abbrev pub Rest : Type 0
Rest = Directives × TypeKind

-- a keyword, a name, directives and the kind of the type
abbrev pub Body : Type 0
Body = Token × (Positioned Name × Rest)

abbrev pub body_of : Token × (Token × Rest) → Body
body_of (word, (name, rest)) = (word, (name_of name, rest))

-- a keyword, a name, and what this says of the rest
abbrev pub a_body : String → Rel Rest → Rel Body
a_body word rest = mapped body_of (one (keyword word) ⨾ one any_name ⨾ rest)

abbrev pub scalar_rest : Directives → Rest
scalar_rest directives = (directives, scalar)

abbrev pub fields_rest : (Fields → TypeKind) → Members → Rest
fields_rest kind (interfaces, (directives, fields)) = (directives, kind (record { implements = interfaces; fields = fields }))

abbrev pub list_rest : {A : Type 0} → (List A → TypeKind) → Directives × List A → Rest
list_rest kind (directives, list) = (directives, kind list)

-- TypeBody : 'scalar' Name Directives[Const]?
--   | 'type' Name ImplementsInterfaces? Directives[Const]? FieldsDefinition?
--   | 'interface' Name ImplementsInterfaces? Directives[Const]? FieldsDefinition?
--   | 'union' Name Directives[Const]? UnionMemberTypes?
--   | 'enum' Name Directives[Const]? EnumValuesDefinition?
--   | 'input' Name Directives[Const]? InputFieldsDefinition?
abbrev pub body : Edition → Grammar Body
body edition limits =
    a_body "scalar" (mapped scalar_rest (directives edition false limits.values))
    ∪ a_body "type" (mapped (fields_rest object) (field_parts edition limits))
    ∪ a_body "interface" (mapped (fields_rest interface) (field_parts edition limits))
    ∪ a_body "union" (mapped (list_rest union) (parts edition limits members))
    ∪ a_body "enum" (mapped (list_rest enumeration) (parts edition limits (enum_values edition limits)))
    ∪ a_body "input" (mapped (list_rest input_object) (parts edition limits (input_fields edition limits)))

-- the same, with one of the optional parts at least
abbrev pub extended_body : Edition → Grammar Body
extended_body edition limits =
    a_body "scalar" (mapped scalar_rest (plus (a_directive edition false limits.values)))
    ∪ a_body "type" (mapped (fields_rest object) (some_field_parts edition limits))
    ∪ a_body "interface" (mapped (fields_rest interface) (some_field_parts edition limits))
    ∪ a_body "union" (mapped (list_rest union) (some_parts edition limits members))
    ∪ a_body "enum" (mapped (list_rest enumeration) (some_parts edition limits (enum_values edition limits)))
    ∪ a_body "input" (mapped (list_rest input_object) (some_parts edition limits (input_fields edition limits)))

-- ---- definitions and extensions

-- what a body says, in a definition or in an extension
abbrev pub type_with : Bool → Description → Body → TypeDefinition
type_with extend description (word, (name, (directives, kind))) = record {
  extend = extend;
  description = description;
  name = name;
  directives = directives;
  kind = kind;
}

abbrev pub type_definition_of : Description × Body → Positioned TypeDefinition
type_definition_of (description, body) = described description body.0 (type_with false description body)

-- TypeDefinition : Description? TypeBody
abbrev pub a_type_definition : Edition → Grammar (Positioned TypeDefinition)
a_type_definition edition limits = mapped type_definition_of (opt (a_description edition) ⨾ body edition limits)

abbrev pub type_extension_of : Token × Body → Positioned TypeDefinition
type_extension_of (extend, body) = at extend (type_with true None body)

-- TypeExtension : 'extend' TypeBody, with at least one of the optional parts of the TypeBody's line
-- It stands at 'extend'.
abbrev pub a_type_extension : Edition → Grammar (Positioned TypeDefinition)
a_type_extension edition limits = mapped type_extension_of (one (keyword "extend") ⨾ extended_body edition limits)
