-- Where the lines of a text begin, as an index has it.
-- Source: this project's choice.
use Rattle.std.specs.Prelude.{ℕ, ◌+◌, List, [], ◌∷◌}
use Rattle.std.specs.Str.{chars}
use Rattle.text_edits.specs.declared.Encoding.TheVariants.{Utf8}
use Rattle.text_edits.specs.Lines.{lines}
use Rattle.text_edits.specs.Units.{width}

-- the byte at which each of these lines begins, if the first one begins at `start`
abbrev pub line_starts : ℕ → List (List ℕ) → List ℕ
line_starts start [] = []
line_starts start (line ∷ lines) = start ∷ line_starts (start + width Utf8 line) lines

-- the same of a text in UTF-8
abbrev pub starts_of : List ℕ → List ℕ
starts_of text = line_starts 0 (lines (chars text))
