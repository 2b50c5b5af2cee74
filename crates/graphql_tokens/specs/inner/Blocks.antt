-- What the code finds in the raw text of a block string, on the way to its value.
use Rattle.std.specs.Prelude.{◌≡◌, ◌≢◌, ◌≤◌, ◌<◌, ℕ, Bool, true, false, if◌then◌else◌, ◌||◌, ◌==◌, nat_lt, min, List, [], ◌∷◌, length, take, drop, map, slice_index, not, Option, Some, None}
use Rattle.std.specs.Str.{IsCharBoundary, byte}
use Rattle.graphql_tokens.specs.tokens.Place.{is_line_end}
use Rattle.graphql_tokens.specs.tokens.BlockText.{begins_quotes, unquoted, lines_of, is_blank_char, is_blank, indent, common_indent, from_text, to_text, joined}

-- tab, space, line feed and carriage return
abbrev pub is_space : ℕ → Bool
is_space c = is_blank_char c || is_line_end c

-- how many characters end the line at the front of the text
abbrev pub end_len : List ℕ → ℕ
end_len text = if slice_index text 0 == byte "\r" then (if slice_index text 1 == byte "\n" then 2 else 1) else 1

-- the lines that count for the indent: all, or all but the first
abbrev pub counted : Bool → List (List ℕ) → List (List ℕ)
counted b [] = []
counted true (line ∷ lines) = line ∷ lines
counted false (line ∷ lines) = lines

-- the least of the indents that were found and one more: of a line with so many blanks at its front
abbrev pub indent_with : Option ℕ → Bool → ℕ → ℕ → Option ℕ
indent_with None counts blanks len = if not counts || blanks == len then None else Some blanks
indent_with (Some least) counts blanks len = if not counts || blanks == len then Some least else Some (min least blanks)

-- the line without its indent: at most so many tabs and spaces; a shorter line stays as it is
abbrev pub trimmed : ℕ → List ℕ → List ℕ
trimmed n line = if nat_lt (length line) n then line else drop (min n (indent line)) line

abbrev pub cleaned : ℕ → List ℕ → List ℕ
cleaned n line = unquoted (trimmed n line)

-- the lines as they are written, where the first loses an indent of its own
abbrev pub written : ℕ → ℕ → List (List ℕ) → List ℕ
written cut n [] = []
written cut n (line ∷ lines) = joined (cleaned cut line ∷ map (cleaned n) lines)

abbrev pub first_line : List (List ℕ) → List ℕ
first_line [] = []
first_line (line ∷ lines) = line

-- the first line that isn't blank begins at the offset
pub record StartsText (text : List ℕ) (at : ℕ) : Type 0 where
  pub within : at ≤ length text
  pub boundary : IsCharBoundary text at
  pub lines : from_text (lines_of text) ≡ lines_of (drop at text)
  pub here : is_blank (first_line (lines_of (drop at text))) ≡ false
  pub before : at ≢ 0 → is_blank (first_line (lines_of text)) ≡ true

-- the last line that isn't blank ends at the offset
pub record EndsText (text : List ℕ) (at : ℕ) : Type 0 where
  pub within : at ≤ length text
  pub boundary : IsCharBoundary text at
  pub lines : to_text (lines_of text) ≡ lines_of (take at text)

-- neither a carriage return nor `\"""` stands at a place from the start up to the end
abbrev pub IsPlainBetween : List ℕ → ℕ → ℕ → Type 0
IsPlainBetween text start end = (k : ℕ) → start ≤ k → k < end → (slice_index text k ≢ byte "\r") × (begins_quotes (drop k text) ≡ false)

abbrev pub IsUnquotedBetween : List ℕ → ℕ → ℕ → Type 0
IsUnquotedBetween text start end = (k : ℕ) → start ≤ k → k < end → begins_quotes (drop k text) ≡ false

-- The line is what is written of the text, which has no other: without its indent, if that goes.
abbrev pub IsOneLine : Bool → List ℕ → List ℕ → Type 0
IsOneLine loses text line = let n = common_indent (counted loses (lines_of text)) in line ≡ written (if loses then n else 0) n (lines_of text)
