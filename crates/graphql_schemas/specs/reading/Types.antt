-- Reading definitions and extensions of types from lists of tokens.
use Rattle.std.specs.Prelude.{Bool, false, not, cond, ◌&&◌, ◌||◌, List, [], ◌∷◌}
use Rattle.graphql_syntax.specs.trees.Parts.{Directives}
use Rattle.graphql_trees.specs.trees.Schema.{TypeKind, object, interface, union, enumeration, input_object, Fields}
use Rattle.graphql_grammar.specs.reading.Arguments.{directives_at}
use Rattle.graphql_reading.specs.grammar.Fronts.{syntax}
use Rattle.graphql_reading.specs.grammar.Limits.{Limits}
use Rattle.graphql_reading.specs.grammar.Tests.{Test, punct, keyword, any_name}
use Rattle.graphql_reading.specs.reading.Outcome.{Reader, Refused, one_at, then_at, mapped_at, choose_at, opt_at}
use Rattle.graphql_schemas.specs.grammar.Types.{parts_of, Members, members_of, Rest, Body, body_of, scalar_rest, fields_rest, list_rest}
use Rattle.graphql_schemas.specs.reading.Fields.{fields_at}
use Rattle.graphql_schemas.specs.reading.InputValues.{input_fields_at}
use Rattle.graphql_schemas.specs.reading.Members.{implements_at, members_at, enum_values_at}
use Prim.Native.String.{String}

-- ---- the optional parts of a body

-- In an extension a part is owed: the token in sight begins one.
abbrev pub owed_at : {A : Type 0} → Bool → Test → Reader A → Reader A
owed_at extend first r [] = Refused syntax []
owed_at extend first r (t ∷ ts) = cond (extend && not (first t.bare)) (Refused syntax (t ∷ ts)) (r (t ∷ ts))

-- directives, and a list that begins so
abbrev pub parts_at : {A : Type 0} → Limits → Test → Reader (List A) → Reader (Directives × List A)
parts_at limits first r = mapped_at parts_of (then_at (directives_at false limits.values) (opt_at first r))

abbrev pub part_first : Test → Test
part_first first t = punct "@" t || first t

abbrev pub some_parts_at : {A : Type 0} → Bool → Limits → Test → Reader (List A) → Reader (Directives × List A)
some_parts_at extend limits first r = owed_at extend (part_first first) (parts_at limits first r)

abbrev pub field_parts_at : Limits → Reader Members
field_parts_at limits = mapped_at members_of (then_at (opt_at (keyword "implements") implements_at) (parts_at limits (punct "{") (fields_at limits)))

abbrev pub field_part_first : Test
field_part_first t = keyword "implements" t || part_first (punct "{") t

abbrev pub some_field_parts_at : Bool → Limits → Reader Members
some_field_parts_at extend limits = owed_at extend field_part_first (field_parts_at limits)

-- ---- bodies

abbrev pub scalar_rest_at : Bool → Limits → Reader Rest
scalar_rest_at extend limits = mapped_at scalar_rest (owed_at extend (punct "@") (directives_at false limits.values))

abbrev pub fields_rest_at : (Fields → TypeKind) → Bool → Limits → Reader Rest
fields_rest_at kind extend limits = mapped_at (fields_rest kind) (some_field_parts_at extend limits)

abbrev pub list_rest_at : {A : Type 0} → (List A → TypeKind) → Bool → Limits → Test → Reader (List A) → Reader Rest
list_rest_at kind extend limits first r = mapped_at (list_rest kind) (some_parts_at extend limits first r)

abbrev pub union_rest_at : Bool → Limits → Reader Rest
union_rest_at extend limits = list_rest_at union extend limits (punct "=") members_at

abbrev pub enum_rest_at : Bool → Limits → Reader Rest
enum_rest_at extend limits = list_rest_at enumeration extend limits (punct "{") (enum_values_at limits)

abbrev pub input_rest_at : Bool → Limits → Reader Rest
input_rest_at extend limits = list_rest_at input_object extend limits (punct "{") (input_fields_at limits)

abbrev pub a_body_at : String → Reader Rest → Reader Body
a_body_at word rest = mapped_at body_of (then_at (one_at (keyword word)) (then_at (one_at any_name) rest))

-- of a definition, or of an extension
abbrev pub body_at : Bool → Limits → Reader Body
body_at extend limits =
    choose_at (keyword "scalar") (a_body_at "scalar" (scalar_rest_at extend limits))
    (choose_at (keyword "type") (a_body_at "type" (fields_rest_at object extend limits))
    (choose_at (keyword "interface") (a_body_at "interface" (fields_rest_at interface extend limits))
    (choose_at (keyword "union") (a_body_at "union" (union_rest_at extend limits))
    (choose_at (keyword "enum") (a_body_at "enum" (enum_rest_at extend limits))
    (a_body_at "input" (input_rest_at extend limits))))))

-- what a body begins with
abbrev pub body_first : Test
body_first t = keyword "scalar" t || keyword "type" t || keyword "interface" t || keyword "union" t || keyword "enum" t || keyword "input" t
