-- Values, and their places (GraphQL October 2021, section 2.9).
use Rattle.std.specs.Prelude.{◌≡◌, ℕ, zero, suc, Bool, true, false, ◌&&◌, List, [], ◌∷◌, map}
use Rattle.std.specs.Str.{chars, encode_utf8_all}
use Rattle.graphql_tokens.specs.declared.pos.Positioned.{Positioned}
use Rattle.graphql_tokens.specs.tokens.Alike.{inside, value_of_block}
use Rattle.graphql_tokens.specs.tokens.Edition.{Edition}
use Rattle.graphql_tokens.specs.tokens.Strings.{StringMeans}
use Rattle.graphql_tokens.specs.tokens.Token.{Bare, Token}
use Rattle.graphql_syntax.specs.trees.ValueTree.{Tree, variable, null, number, string, boolean, enumeration, list, object, trees_of, fields_of}
use Rattle.graphql_grammar.specs.grammar.Merged.{merged}
use Rattle.graphql_reading.specs.grammar.Places.{at}
use Rattle.graphql_reading.specs.grammar.Relations.{Rel, one, meaning, ◌⨾◌, ◌∪◌, mapped, star}
use Rattle.graphql_reading.specs.grammar.Tests.{Test, punct, keyword, any_name, name_but, any_number, any_string, any_block}

abbrev pub Value : Type 0
Value = Positioned Tree

-- ---- names, and the words among them

abbrev pub true_of : Token → Value
true_of t = at t (boolean true)

abbrev pub false_of : Token → Value
false_of t = at t (boolean false)

abbrev pub null_of : Token → Value
null_of t = at t null

abbrev pub enumeration_of : Token → Value
enumeration_of t = at t (enumeration t.bare.spelling)

-- 'true' | 'false' | 'null' | EnumValue
-- EnumValue : a Name other than 'true', 'false', 'null'
abbrev pub a_word : Rel Value
a_word =
    mapped true_of (one (keyword "true"))
    ∪ mapped false_of (one (keyword "false"))
    ∪ mapped null_of (one (keyword "null"))
    ∪ mapped enumeration_of (one (name_but ("true" ∷ "false" ∷ "null" ∷ [])))

-- ---- numbers and strings

abbrev pub number_of : Token → Value
number_of t = at t (number t.bare.spelling)

-- a number is kept by its spelling
abbrev pub a_number : Rel Value
a_number = mapped number_of (one any_number)

-- the bytes of the one value of a string's content
abbrev pub StringStands : Edition → Bare → List ℕ → Type 0
StringStands edition t bytes = (value : List ℕ) × StringMeans edition (chars (inside 1 t.spelling)) value × (bytes ≡ encode_utf8_all value)

-- the bytes of the value of a block string's raw text
abbrev pub BlockStands : Bare → List ℕ → Type 0
BlockStands t bytes = bytes ≡ encode_utf8_all (value_of_block t.spelling)

abbrev pub string_of : Token × List ℕ → Value
string_of (t, bytes) = at t (string bytes)

abbrev pub a_string : Edition → Rel Value
a_string edition = mapped string_of (meaning any_string (StringStands edition))

abbrev pub a_block : Rel Value
a_block = mapped string_of (meaning any_block BlockStands)

-- ---- variables

-- `$`, where variables may stand
abbrev pub dollar : Bool → Test
dollar vars t = punct "$" t && vars

abbrev pub variable_of : Token × Token → Value
variable_of (sign, name) = at sign (variable name.bare.spelling)

-- Variable : '$' Name
abbrev pub a_variable : Bool → Rel Value
a_variable vars = mapped variable_of (one (dollar vars) ⨾ one any_name)

-- ---- lists and objects

abbrev pub list_of : Token × (List Value × Token) → Value
list_of (opening, (values, closing)) = at opening (list (trees_of (map (λ v. v.node) values)))

-- ListValue : '[' Value* ']'
abbrev pub a_list : Rel Value → Rel Value
a_list value = mapped list_of (one (punct "[") ⨾ star value ⨾ one (punct "]"))

abbrev pub object_field_of : Token × (Token × Value) → List ℕ × Tree
object_field_of (name, (colon, value)) = (name.bare.spelling, value.node)

-- ObjectField : Name ':' Value
abbrev pub a_field : Rel Value → Rel (List ℕ × Tree)
a_field value = mapped object_field_of (one any_name ⨾ one (punct ":") ⨾ value)

abbrev pub object_of : Token × (List (List ℕ × Tree) × Token) → Value
object_of (opening, (fields, closing)) = at opening (object (fields_of (merged fields)))

-- ObjectValue : '{' ObjectField* '}'
abbrev pub an_object : Rel Value → Rel Value
an_object value = mapped object_of (one (punct "{") ⨾ star (a_field value) ⨾ one (punct "}"))

-- ---- values

-- a value that is neither a list nor an object
abbrev pub a_simple_value : Edition → Bool → Rel Value
a_simple_value edition vars = a_word ∪ a_number ∪ a_string edition ∪ a_block ∪ a_variable vars

-- A value whose lists and objects nest at most so deep; variables may stand in it, or may not.
-- It stands at its first token.
abbrev pub value : Edition → Bool → ℕ → Rel Value
value edition vars zero = a_simple_value edition vars
value edition vars (suc b) = a_simple_value edition vars ∪ a_list (value edition vars b) ∪ an_object (value edition vars b)
