-- Block strings that have one value, by this parser and by the specification.
-- Source: GraphQL October 2021, section 2.9.4 (String Value), `BlockStringValue`. Of a blank line that is shorter than the common indent
-- the specification leaves nothing, and this parser leaves it as it is: `dedented` of `graphql_tokens`.
use Rattle.std.specs.Prelude.{ℕ, Bool, false, not, ◌&&◌, nat_lt, List, [], ◌∷◌, length}
use Rattle.std.specs.List.{list_any}
use Rattle.std.specs.Str.{chars}
use Rattle.graphql_tokens.specs.tokens.BlockText.{unquoted, lines_of, is_blank, common_indent, from_text, to_text}

-- a line of blanks alone, of one at least, but fewer than the indent
abbrev pub is_short : ℕ → List ℕ → Bool
is_short indent line = is_blank line && (nat_lt 0 (length line) && nat_lt (length line) indent)

-- Between the first and the last of the lines that aren't blank, one is shorter than the common indent of those after the first line.
abbrev pub has_short : List (List ℕ) → Bool
has_short [] = false
has_short (first ∷ others) = list_any (is_short (common_indent others)) (to_text (from_text (first ∷ others)))

-- no line that the value keeps is so short
unfoldable pub has_one_reading : List ℕ → Bool
has_one_reading raw = not (has_short (lines_of (unquoted (chars raw))))
