-- The text of a value.
-- Source: GraphQL October 2021, sections 2.9 (Input Values) and 2.10 (Variables), for what each value is written with; 2.9.4
-- (String Value) for the escapes. That the parts of a list and of an object stand between `, `, that a field's value stands
-- after `: `, and which escape a character has, is this project's choice.
use Rattle.std.specs.Prelude.{ℕ, ◌/◌, ◌%◌, List, [], ◌∷◌, ◌++◌, Bool, true, false, Option, Some, None, if◌then◌else◌, ◌==◌, nat_lt, codes, flat_map}
use Rattle.std.specs.Char.{digit_char}
use Rattle.std.specs.List.{join_by}
use Rattle.std.specs.Map.{lookup}
use Rattle.std.specs.Str.{byte, chars, encode_utf8_all}
use Rattle.graphql_syntax.specs.trees.ValueTree.{Tree, variable, null, number, string, boolean, enumeration, list, object, Trees, no_trees, more_trees, Fields, no_fields, field}

-- ---- strings

-- the characters that have a letter, each with the letter that stands for it after a backslash
abbrev pub letters : List (ℕ × ℕ)
letters =
    (byte "\"", byte "\"") ∷ (byte "\\", byte "\\") ∷ (byte "\n", byte "n") ∷ (byte "\r", byte "r")
    ∷ (byte "\t", byte "t") ∷ (byte "\u{8}", byte "b") ∷ (byte "\u{c}", byte "f") ∷ []

abbrev pub escape_letter : ℕ → Option ℕ
escape_letter c = lookup (λ character. c == character) letters

-- the unit that stands for a character: an escape with a letter, one of four digits for any other control character below
-- U+0020, and else the character itself
abbrev pub unit_with : ℕ → Option ℕ → List ℕ
unit_with c (Some letter) = byte "\\" ∷ letter ∷ []
unit_with c None = if nat_lt c 0x20 then codes "\\u00" ++ (digit_char (c / 16) ∷ digit_char (c % 16) ∷ []) else c ∷ []

abbrev pub unit_for : ℕ → List ℕ
unit_for c = unit_with c (escape_letter c)

-- the content of the string that stands for these characters
abbrev pub content_for : List ℕ → List ℕ
content_for cs = flat_map unit_for cs

-- the string that stands for a text
abbrev pub string_text : List ℕ → List ℕ
string_text s = codes "\"" ++ (encode_utf8_all (content_for (chars s)) ++ codes "\"")

-- ---- values

abbrev pub word_of : Bool → List ℕ
word_of true = codes "true"
word_of false = codes "false"

-- the texts joined, with `, ` between each two
abbrev pub listed : List (List ℕ) → List ℕ
listed texts = join_by (λ text. text) (codes ", ") texts

abbrev mutual
  pub value_text : Tree → List ℕ
  value_text (variable n) = codes "$" ++ n
  value_text null = codes "null"
  value_text (number n) = n
  value_text (string s) = string_text s
  value_text (boolean b) = word_of b
  value_text (enumeration n) = n
  value_text (list ts) = codes "[" ++ (listed (item_texts ts) ++ codes "]")
  value_text (object fs) = codes "{" ++ (listed (field_texts fs) ++ codes "}")

  pub item_texts : Trees → List (List ℕ)
  item_texts no_trees = []
  item_texts (more_trees t ts) = value_text t ∷ item_texts ts

  pub field_texts : Fields → List (List ℕ)
  field_texts no_fields = []
  field_texts (field n t fs) = (n ++ (codes ": " ++ value_text t)) ∷ field_texts fs
