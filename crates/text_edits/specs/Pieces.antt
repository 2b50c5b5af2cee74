-- Inner: a text in pieces of whole lines.
use Rattle.std.specs.List.{sum_by}
use Rattle.std.specs.Prelude.{◌≡◌, ℕ, ◌+◌, ◌-◌, ◌<◌, ◌≤◌, List, [], ◌∷◌, ◌++◌, length, slice_index_or, take}
use Rattle.std.specs.Str.{chars, IsUtf8, IsCharBoundary}
use Rattle.text_edits.specs.Lines.{lines}

-- how many lines of a text have an end
abbrev pub lines_ended : List ℕ → ℕ
lines_ended text = length (lines (chars text)) - 1

-- a text that ends with a line feed
pub record IsPiece (piece : List ℕ) : Type 0 where
  pub valid : IsUtf8 piece
  pub front : List ℕ
  pub ends : chars piece ≡ front ++ (10 ∷ [])

-- the first piece of a text ends here
pub record IsPieceEnd (text : List ℕ) (end : ℕ) : Type 0 where
  pub some : 0 < end
  pub boundary : IsCharBoundary text end
  pub piece : IsPiece (take end text)

-- the line is in the piece of this index, or behind all pieces, after so many lines
pub record IsFoundAt (pieces : List (List ℕ)) (line index passed : ℕ) : Type 0 where
  pub within : index ≤ length pieces
  pub before : passed ≡ sum_by lines_ended (take index pieces)
  pub low : passed ≤ line
  pub high : index < length pieces → line < passed + lines_ended (slice_index_or pieces index [])
