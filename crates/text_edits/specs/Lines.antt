-- The lines of a text, each a list of characters with the line's end.
-- Source: Language Server Protocol 3.17, "Text Documents": "\n", "\r\n" and "\r" end a line. That the last line of a text is empty
-- if the text is empty or ends with a line end is this project's choice.
use Rattle.std.specs.Prelude.{ℕ, Bool, false, not, ◌==◌, ◌&&◌, ◌||◌, List, [], ◌∷◌, if◌then◌else◌}

abbrev pub begins_with_line_feed : List ℕ → Bool
begins_with_line_feed [] = false
begins_with_line_feed (c ∷ _) = c == 10

-- Whether a line ends with this character, where `rest` comes after it: a line feed, or a carriage return with no line feed
-- after it (which would end the line).
abbrev pub ends_line : ℕ → List ℕ → Bool
ends_line c rest = c == 10 || (c == 13 && not (begins_with_line_feed rest))

abbrev pub onto_first_line : ℕ → List (List ℕ) → List (List ℕ)
onto_first_line c [] = (c ∷ []) ∷ []
onto_first_line c (line ∷ lines) = (c ∷ line) ∷ lines

-- the lines, each with its end; the last one has none
abbrev pub lines : List ℕ → List (List ℕ)
lines [] = [] ∷ []
lines (c ∷ cs) = if ends_line c cs then (c ∷ []) ∷ lines cs else onto_first_line c (lines cs)

abbrev pub is_line_end : ℕ → Bool
is_line_end c = c == 10 || c == 13

-- a line without its end
abbrev pub content : List ℕ → List ℕ
content [] = []
content (c ∷ cs) = if is_line_end c then [] else c ∷ content cs
