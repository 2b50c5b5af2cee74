-- Inner: where lines begin in the bytes of a text.
use Rattle.std.specs.Prelude.{◌≡◌, ℕ, suc, ◌<◌, ◌≤◌, List, [], ◌∷◌, ◌++◌, length, slice_index, take, drop, if◌then◌else◌}
use Rattle.std.specs.Str.{chars, IsCharBoundary}
use Rattle.text_edits.specs.Lines.{lines, content, ends_line}
use Rattle.text_edits.specs.Positions.{start_of, line_at}

-- the text is one line
abbrev pub IsLastLine : List ℕ → Type 0
IsLastLine text = lines (chars text) ≡ chars text ∷ []

-- the first line of the text has so many bytes with its end, and other lines come after it
pub record IsNextLine (text : List ℕ) (n : ℕ) : Type 0 where
  pub some : 0 < n
  pub boundary : IsCharBoundary text n
  pub lines : lines (chars text) ≡ chars (take n text) ∷ lines (chars (drop n text))

-- this line of the text begins at the offset; if it is beyond the last line, the text ends there
pub record IsLineStart (text : List ℕ) (line offset : ℕ) : Type 0 where
  pub boundary : IsCharBoundary text offset
  pub begins : offset ≡ start_of (lines (chars text)) line
  pub holds : content (chars (drop offset text)) ≡ line_at (lines (chars text)) line

-- the offsets, after each line end of a part of a text, at which lines begin: the part begins at `start`, and `rest` comes after it
abbrev pub starts_within : ℕ → List ℕ → List ℕ → List ℕ
starts_within start [] rest = []
starts_within start (b ∷ bytes) rest = (if ends_line b (bytes ++ rest) then suc start ∷ [] else []) ++ starts_within (suc start) bytes rest

-- the one at the end of the part, if its last byte ends a line
abbrev pub start_after : ℕ → List ℕ → List ℕ → List ℕ
start_after start [] rest = []
start_after start (b ∷ []) rest = if ends_line b rest then suc start ∷ [] else []
start_after start (b ∷ c ∷ bytes) rest = start_after (suc start) (c ∷ bytes) rest

-- those from the end of `front` up to the end of `new`, in a text of three parts
abbrev pub starts_from : List ℕ → List ℕ → List ℕ → List ℕ
starts_from front new back = start_after 0 front (new ++ back) ++ starts_within (length front) new back

-- so many of these starts are at or before the offset, and the others are after it
pub record IsBegun (starts : List ℕ) (offset n : ℕ) : Type 0 where
  pub within : n ≤ length starts
  pub low : (k : ℕ) → k < n → slice_index starts k ≤ offset
  pub high : (k : ℕ) → n ≤ k → k < length starts → offset < slice_index starts k
