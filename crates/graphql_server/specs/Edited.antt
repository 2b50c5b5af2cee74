-- A text after edits.
-- Source: Language Server Protocol 3.17, "TextEdit[]": each edit speaks of the text as it was before all of them, and no two overlap.
use Rattle.std.specs.Prelude.{◌≡◌, ℕ, ◌≤◌, List, [], ◌∷◌, ◌++◌, drop, length, slice_range}
use Rattle.graphql_server.specs.declared.differences.Edit.{Edit}

-- the text from an offset on, after edits that each put a part of `new` in the place of a part of it
abbrev pub edited_from : ℕ → List ℕ → List ℕ → List Edit → List ℕ
edited_from offset text new [] = drop offset text
edited_from offset text new (edit ∷ edits) =
    slice_range text offset edit.start ++ (slice_range new edit.new_start edit.new_end ++ edited_from edit.end text new edits)

-- the edits stand in the order of the text from an offset on, and none reaches into another
abbrev pub AreInOrder : ℕ → List ℕ → List Edit → Type 0
AreInOrder offset text [] = offset ≤ length text
AreInOrder offset text (edit ∷ edits) = (offset ≤ edit.start) × (edit.start ≤ edit.end) × AreInOrder edit.end text edits

-- the text after these edits
pub record IsEdited (text new : List ℕ) (edits : List Edit) (after : List ℕ) : Type 0 where
  pub ordered : AreInOrder 0 text edits
  pub made : after ≡ edited_from 0 text new edits

-- a text has the same between two offsets as another between two
pub record IsSamePart (old : List ℕ) (start end : ℕ) (new : List ℕ) (new_start new_end : ℕ) : Type 0 where
  pub old_rises : start ≤ end
  pub new_rises : new_start ≤ new_end
  pub old_within : end ≤ length old
  pub same : slice_range old start end ≡ slice_range new new_start new_end
