-- What the raw text of a block string means.
-- Source: GraphQL October 2021, section 2.9.4 (String Value), `BlockStringValue`. It departs in one thing, at `dedented`.
use Rattle.std.specs.Prelude.{ℕ, Bool, not, if◌then◌else◌, ◌||◌, ◌&&◌, ◌==◌, nat_lt, min, List, [], ◌∷◌, length, drop, map, filter, slice_index}
use Rattle.std.specs.List.{list_all, prefix_len, join_with_byte}
use Rattle.std.specs.Str.{byte}

-- ---- each `\"""` stands for `"""`

-- `\"""` begins the text
abbrev pub begins_quotes : List ℕ → Bool
begins_quotes text = slice_index text 0 == byte "\\" && slice_index text 1 == byte "\"" && slice_index text 2 == byte "\"" && slice_index text 3 == byte "\""

-- the text without the backslash of each `\"""`
abbrev pub unquoted : List ℕ → List ℕ
unquoted [] = []
unquoted (c ∷ cs) = if begins_quotes (c ∷ cs) then unquoted cs else c ∷ unquoted cs

-- ---- lines

-- the character goes to the front of the first line
abbrev pub onto_line : ℕ → List (List ℕ) → List (List ℕ)
onto_line c [] = (c ∷ []) ∷ []
onto_line c (line ∷ lines) = (c ∷ line) ∷ lines

-- a line ends at a line feed, at a carriage return, and at both in this order
abbrev pub lines_of : List ℕ → List (List ℕ)
lines_of [] = [] ∷ []
lines_of (c ∷ cs) =
    if c == byte "\n" then [] ∷ lines_of cs
    else (if c == byte "\r" then (if slice_index cs 0 == byte "\n" then lines_of cs else [] ∷ lines_of cs)
    else onto_line c (lines_of cs))

-- a tab or a space
abbrev pub is_blank_char : ℕ → Bool
is_blank_char c = c == byte "\t" || c == byte " "

-- a line of tabs and spaces alone, or of nothing
abbrev pub is_blank : List ℕ → Bool
is_blank line = list_all is_blank_char line

-- ---- the common indent

-- how many tabs and spaces stand at the front of the line
abbrev pub indent : List ℕ → ℕ
indent line = prefix_len is_blank_char line

-- the least of the numbers, and 0 where there is none
abbrev pub least : List ℕ → ℕ
least [] = 0
least (n ∷ []) = n
least (n ∷ m ∷ ns) = min n (least (m ∷ ns))

-- the least indent of the lines that aren't blank
abbrev pub common_indent : List (List ℕ) → ℕ
common_indent lines = least (map indent (filter (λ line. not (is_blank line)) lines))

-- The line without so many characters at its front. A line that is shorter is blank, and stays as it is: this project's
-- choice, where October 2021 leaves nothing of it.
abbrev pub dedented : ℕ → List ℕ → List ℕ
dedented n line = if nat_lt (length line) n then line else drop n line

-- each line after the first loses their common indent
abbrev pub dedent : List (List ℕ) → List (List ℕ)
dedent [] = []
dedent (first ∷ others) = first ∷ map (dedented (common_indent others)) others

-- ---- blank lines at the ends

-- the lines from the first that isn't blank
abbrev pub from_text : List (List ℕ) → List (List ℕ)
from_text [] = []
from_text (line ∷ lines) = if is_blank line then from_text lines else line ∷ lines

-- the lines up to the last that isn't blank
abbrev pub to_text : List (List ℕ) → List (List ℕ)
to_text [] = []
to_text (line ∷ lines) = if list_all is_blank (line ∷ lines) then [] else line ∷ to_text lines

-- ---- the value

-- the lines joined by line feeds
abbrev pub joined : List (List ℕ) → List ℕ
joined lines = join_with_byte (byte "\n") lines

-- Quotes are unquoted first. Then the lines lose their common indent, then the blank lines at both ends go.
unfoldable pub block_value : List ℕ → List ℕ
block_value raw = joined (to_text (from_text (dedent (lines_of (unquoted raw)))))
