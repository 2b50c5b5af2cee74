-- The string that is printed of a text.
-- Source: GraphQL October 2021, section 2.9.4 (String Value). Which characters have an escape, and which one, is this project's
-- choice: as GraphQL.js 16 prints strings.
use Rattle.std.specs.Prelude.{ℕ, ◌/◌, ◌%◌, List, [], ◌∷◌, ◌++◌, Option, Some, None, if◌then◌else◌, codes, flat_map}
use Rattle.std.specs.Char.{digit_char, is_control, to_ascii_uppercase}
use Rattle.std.specs.Str.{byte, chars, encode_utf8_all}
use Rattle.graphql_syntax.specs.trees.ValueText.{escape_letter}

-- the digit of a number below 16, a capital past 9
abbrev pub hex_digit : ℕ → ℕ
hex_digit n = to_ascii_uppercase (digit_char n)

-- the unit that stands for a character: an escape with its letter; one of four digits for any other control character; and else
-- the character itself
abbrev pub unit_with : ℕ → Option ℕ → List ℕ
unit_with c (Some letter) = byte "\\" ∷ letter ∷ []
unit_with c None = if is_control c then codes "\\u00" ++ (hex_digit (c / 16) ∷ hex_digit (c % 16) ∷ []) else c ∷ []

abbrev pub unit_for : ℕ → List ℕ
unit_for c = unit_with c (escape_letter c)

-- what stands between the quotes
abbrev pub content_for : List ℕ → List ℕ
content_for cs = flat_map unit_for cs

-- the string
abbrev pub string_text : List ℕ → List ℕ
string_text s = codes "\"" ++ (encode_utf8_all (content_for (chars s)) ++ codes "\"")
