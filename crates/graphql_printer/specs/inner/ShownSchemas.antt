-- The tokens that a schema file is printed as: those of its tree, where nothing is written that may be left out.
-- Source: the productions of GraphQL October 2021, sections 3.1 to 3.13. That roots stand in the order of their places, and that
-- an empty part is left out, is this project's choice.
use Rattle.std.specs.Prelude.{ℕ, Bool, true, false, Option, Some, None, List, [], ◌∷◌, ◌++◌, flat_map, if◌then◌else◌, ◌&&◌, codes}
use Rattle.std.specs.Str.{chars}
use Rattle.graphql_tokens.specs.declared.lexer.TokenKind.TheVariants.{Block}
use Rattle.graphql_tokens.specs.declared.pos.Positioned.{Positioned}
use Rattle.graphql_tokens.specs.tokens.Token.{Bare}
use Rattle.graphql_syntax.specs.calls.Words.{operation_word}
use Rattle.graphql_syntax.specs.declared.types.OperationType.{OperationType}
use Rattle.graphql_syntax.specs.declared.types.OperationType.TheVariants.{Query, Mutation, Subscription}
use Rattle.graphql_syntax.specs.trees.Parts.{Name}
use Rattle.graphql_trees.specs.calls.Locations.{location_word}
use Rattle.graphql_trees.specs.declared.service.DirectiveLocation.{DirectiveLocation}
use Rattle.graphql_trees.specs.trees.Schema.{Description, Names, InputValueDefinition, InputValues, FieldDefinition, EnumValueDefinition, TypeKind, scalar, object, interface, union, enumeration, input_object, SchemaDefinition, TypeDefinition, DirectiveDefinition, Definition, schema, type_def, directive, Document}
use Rattle.graphql_layout.specs.texts.Blocks as blocks
use Rattle.graphql_printer.specs.Controls.{are_clear}
use Rattle.graphql_printer.specs.inner.Places.{stands_before}
use Rattle.graphql_printer.specs.inner.Shown.{sign, word, quoted, shown_node, shown_part, shown_between, shown_type, shown_default, shown_directives}

-- ---- parts

-- a block string, which the layout indents
abbrev pub in_block : List ℕ → Bare
in_block text = record { kind = Block; spelling = blocks.spelled (blocks.feed 0) text }

-- a block string keeps it, and shows no control character but tabs and line feeds
abbrev pub fits_block : List ℕ → Bool
fits_block cs = blocks.may_be_block cs && are_clear cs

-- a text as a block string where that fits, and else between single quotes
abbrev pub shown_text : List ℕ → List Bare
shown_text text = (if fits_block (chars text) then in_block text else quoted text) ∷ []

abbrev pub shown_description : Description → List Bare
shown_description description = shown_part (shown_node shown_text) description

abbrev pub shown_name : Name → List Bare
shown_name name = word name ∷ []

-- a list after a token, with another between each two; nothing for none
abbrev pub shown_led : {A : Type 0} → Bare → Bare → (A → List Bare) → List A → List Bare
shown_led lead mark shown [] = []
shown_led lead mark shown (a ∷ others) = lead ∷ (shown a ++ flat_map (λ other. mark ∷ shown other) others)

-- ---- the parts of types

abbrev pub shown_input_value : InputValueDefinition → List Bare
shown_input_value v = shown_description v.description ++ (word v.name.node ∷ sign ":" ∷ (shown_type v.ty.node ++ (shown_part shown_default v.default_value ++ shown_directives v.directives)))

abbrev pub shown_parameters : InputValues → List Bare
shown_parameters values = shown_between "(" ")" (shown_node shown_input_value) values

abbrev pub shown_field : FieldDefinition → List Bare
shown_field f = shown_description f.description ++ (word f.name.node ∷ (shown_parameters f.arguments ++ (sign ":" ∷ (shown_type f.ty.node ++ shown_directives f.directives))))

abbrev pub shown_enum_value : EnumValueDefinition → List Bare
shown_enum_value v = shown_description v.description ++ (word v.value.node ∷ shown_directives v.directives)

abbrev pub shown_implements : Names → List Bare
shown_implements names = shown_led (word (codes "implements")) (sign "&") (shown_node shown_name) names

abbrev pub shown_members : Names → List Bare
shown_members names = shown_led (sign "=") (sign "|") (shown_node shown_name) names

-- ---- types

abbrev pub kind_word : TypeKind → List ℕ
kind_word scalar = codes "scalar"
kind_word (object fields) = codes "type"
kind_word (interface fields) = codes "interface"
kind_word (union names) = codes "union"
kind_word (enumeration values) = codes "enum"
kind_word (input_object values) = codes "input"

-- what stands before the directives of a type
abbrev pub shown_interfaces : TypeKind → List Bare
shown_interfaces scalar = []
shown_interfaces (object fields) = shown_implements fields.implements
shown_interfaces (interface fields) = shown_implements fields.implements
shown_interfaces (union names) = []
shown_interfaces (enumeration values) = []
shown_interfaces (input_object values) = []

-- and what stands after them
abbrev pub shown_contents : TypeKind → List Bare
shown_contents scalar = []
shown_contents (object fields) = shown_between "{" "}" (shown_node shown_field) fields.fields
shown_contents (interface fields) = shown_between "{" "}" (shown_node shown_field) fields.fields
shown_contents (union names) = shown_members names
shown_contents (enumeration values) = shown_between "{" "}" (shown_node shown_enum_value) values
shown_contents (input_object values) = shown_between "{" "}" (shown_node shown_input_value) values

-- the keyword of an extension, where it is one
abbrev pub shown_extend : Bool → List Bare
shown_extend true = word (codes "extend") ∷ []
shown_extend false = []

abbrev pub shown_type_definition : TypeDefinition → List Bare
shown_type_definition t =
    shown_description t.description
    ++ (shown_extend t.extend ++ (word (kind_word t.kind) ∷ word t.name.node ∷ (shown_interfaces t.kind ++ (shown_directives t.directives ++ shown_contents t.kind))))

-- ---- schemas

-- a kind of operation, and the name of the type that it begins at
abbrev pub Root : Type 0
Root = OperationType × Positioned Name

-- a root, before the first whose place is larger
abbrev pub put_root : Root → List Root → List Root
put_root root [] = root ∷ []
put_root root (first ∷ others) = if stands_before root.1.pos first.1.pos then root ∷ first ∷ others else first ∷ put_root root others

-- a root that may be missing
abbrev pub with_root : OperationType → Option (Positioned Name) → List Root → List Root
with_root kind None roots = roots
with_root kind (Some name) roots = put_root (kind, name) roots

-- the roots in the order of their names' places
abbrev pub roots_of : SchemaDefinition → List Root
roots_of s = with_root Subscription s.subscription (with_root Mutation s.mutation (with_root Query s.query []))

abbrev pub shown_root : Root → List Bare
shown_root root = word (operation_word root.0) ∷ sign ":" ∷ word root.1.node ∷ []

abbrev pub shown_schema : SchemaDefinition → List Bare
shown_schema s =
    shown_description s.description
    ++ (shown_extend s.extend ++ (word (codes "schema") ∷ (shown_directives s.directives ++ shown_between "{" "}" shown_root (roots_of s))))

-- ---- directives

abbrev pub shown_repeatable : Bool → List Bare
shown_repeatable true = word (codes "repeatable") ∷ []
shown_repeatable false = []

abbrev pub shown_location : DirectiveLocation → List Bare
shown_location location = word (codes (location_word location)) ∷ []

abbrev pub shown_locations : List (Positioned DirectiveLocation) → List Bare
shown_locations locations = shown_led (word (codes "on")) (sign "|") (shown_node shown_location) locations

abbrev pub shown_directive_definition : DirectiveDefinition → List Bare
shown_directive_definition d =
    shown_description d.description
    ++ (word (codes "directive") ∷ sign "@" ∷ word d.name.node ∷ (shown_parameters d.arguments ++ (shown_repeatable d.is_repeatable ++ shown_locations d.locations)))

-- ---- files

abbrev pub shown_definition : Definition → List Bare
shown_definition (schema s) = shown_schema s.node
shown_definition (type_def t) = shown_type_definition t.node
shown_definition (directive d) = shown_directive_definition d.node

abbrev pub shown_file : Document → List Bare
shown_file ds = flat_map shown_definition ds
