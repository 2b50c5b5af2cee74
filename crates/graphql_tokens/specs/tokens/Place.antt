-- Where a character stands in a text: its line and its column, counted from 1.
-- GraphQL October 2021, section 7.1.2 (both are counted from 1) and section 2.1.3 (what ends a line), with two choices
-- of this project: a carriage return with no line feed after it ends a line there, and here it begins the columns
-- anew and counts no line; and columns count characters, not bytes.
use Rattle.std.specs.Prelude.{ℕ, ◌+◌, Bool, not, ◌||◌, ◌==◌, List, take}
use Rattle.std.specs.List.{count_by, suffix_len}
use Rattle.std.specs.Str.{chars}
use Rattle.graphql_tokens.specs.declared.pos.Pos.{Pos}

-- line feed, U+000A, the one character that begins a line here
abbrev pub is_line_feed : ℕ → Bool
is_line_feed c = c == 10

-- line feed or carriage return, U+000D: they end comments (section 2.1.4) and begin the columns anew
abbrev pub is_line_end : ℕ → Bool
is_line_end c = c == 10 || c == 13

abbrev pub is_in_line : ℕ → Bool
is_in_line c = not (is_line_end c)

-- The place after these characters, with which a text begins: one line more than their line feeds, and one column
-- more than the characters after the last line feed or carriage return.
abbrev pub place_after : List ℕ → Pos
place_after front = record { line = 1 + count_by is_line_feed front; column = 1 + suffix_len is_in_line front }

-- the place at a byte offset of a text in UTF-8: that after the characters before the offset
abbrev pub place : List ℕ → ℕ → Pos
place text offset = place_after (chars (take offset text))
