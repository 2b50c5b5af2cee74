-- The byte offset of a position, and the position of a byte offset.
-- Source: Language Server Protocol 3.17, "Position": a `character` beyond the line's length is the line's length. The rest is
-- this project's choice: a line beyond the last is the end of the text, and so is an offset beyond it; what is in the middle
-- of a character is where the character begins; an offset in the middle of "\r\n" is where that begins.
use Rattle.std.specs.Prelude.{◌≡◌, ℕ, zero, suc, ◌+◌, ◌-◌, ◌<◌, nat_lt, List, [], ◌∷◌, ◌++◌, length, if◌then◌else◌, slice_index_or}
use Rattle.std.specs.Str.{chars}
use Rattle.text_edits.specs.declared.Encoding.{Encoding}
use Rattle.text_edits.specs.declared.Encoding.TheVariants.{Utf8}
use Rattle.text_edits.specs.declared.Position.{Position}
use Rattle.text_edits.specs.Lines.{lines, content}
use Rattle.text_edits.specs.Units.{width, fitting}

-- the byte at which a line begins, lines counted from 0; beyond the last line, how many bytes all lines have
abbrev pub start_of : List (List ℕ) → ℕ → ℕ
start_of _ zero = 0
start_of [] (suc n) = 0
start_of (line ∷ lines) (suc n) = width Utf8 line + start_of lines n

-- what a line contains, without its end; beyond the last line, nothing
abbrev pub line_at : List (List ℕ) → ℕ → List ℕ
line_at lines n = content (slice_index_or lines n [])

-- how many lines end at or before an offset in bytes; the last line has no end
abbrev pub lines_passed : List (List ℕ) → ℕ → ℕ
lines_passed [] offset = 0
lines_passed (line ∷ []) offset = 0
lines_passed (line ∷ next ∷ lines) offset =
    if nat_lt offset (width Utf8 line) then 0 else suc (lines_passed (next ∷ lines) (offset - width Utf8 line))

-- where the line begins, and as many bytes more as its characters take that fit in `character`
abbrev pub offset_in : Encoding → List (List ℕ) → Position → ℕ
offset_in encoding lines p = start_of lines p.line + width Utf8 (fitting encoding p.character (line_at lines p.line))

-- how many lines are passed, and the units of those characters of the line that fit in the bytes from there to the offset
abbrev pub position_in : Encoding → List (List ℕ) → ℕ → Position
position_in encoding lines offset =
    let line = lines_passed lines offset in
    record { line = line; character = width encoding (fitting Utf8 (offset - start_of lines line) (line_at lines line)) }

-- the same in a text in UTF-8
abbrev pub offset_of : Encoding → List ℕ → Position → ℕ
offset_of encoding text p = offset_in encoding (lines (chars text)) p

abbrev pub position_of : Encoding → List ℕ → ℕ → Position
position_of encoding text offset = position_in encoding (lines (chars text)) offset

-- the position is one of these lines: on one of them, before one of its characters or at its end
pub record IsPositionIn (encoding : Encoding) (lines : List (List ℕ)) (p : Position) : Type 0 where
  pub front : List ℕ
  pub rest : List ℕ
  pub line : p.line < length lines
  pub whole : line_at lines p.line ≡ front ++ rest
  pub character : p.character ≡ width encoding front

abbrev pub IsPosition : Encoding → List ℕ → Position → Type 0
IsPosition encoding text p = IsPositionIn encoding (lines (chars text)) p

-- the offset is between the carriage return and the line feed of one line end
pub record IsInLineEnd (text : List ℕ) (offset : ℕ) : Type 0 where
  pub front : List ℕ
  pub rest : List ℕ
  pub whole : chars text ≡ front ++ (13 ∷ 10 ∷ rest)
  pub here : offset ≡ width Utf8 front + 1
