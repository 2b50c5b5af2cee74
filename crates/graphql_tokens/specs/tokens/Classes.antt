-- Classes of characters.
-- Source: GraphQL October 2021, sections 2.1.1 to 2.1.3 and 2.1.5 (ignored characters), 2.1.8 (Punctuators) and 2.1.9 (Names).
use Rattle.std.specs.Prelude.{ℕ, Bool, ◌||◌, ◌==◌, codes}
use Rattle.std.specs.Char.{is_ascii_digit, is_ascii_alphabetic, char_set_contains}
use Rattle.std.specs.Str.{byte}
use Rattle.graphql_tokens.specs.tokens.Place.{is_line_end}

-- the byte order mark, U+FEFF
abbrev pub byte_order_mark : ℕ
byte_order_mark = 0xFEFF

-- white space, a line's end, a comma, or the byte order mark
abbrev pub is_ignored : ℕ → Bool
is_ignored c = c == byte "\t" || c == byte " " || c == byte "," || is_line_end c || c == byte_order_mark

-- a letter or `_`
abbrev pub is_name_start : ℕ → Bool
is_name_start c = is_ascii_alphabetic c || c == byte "_"

-- a letter, `_` or a digit
abbrev pub is_name_char : ℕ → Bool
is_name_char c = is_ascii_alphabetic c || c == byte "_" || is_ascii_digit c

-- the punctuators of one character
abbrev pub is_punct : ℕ → Bool
is_punct c = char_set_contains (codes "!$&():=@[]{|}") c
