-- Texts that are made edit after edit.
use Rattle.std.proofs.Common.{◌≡◌, ℕ, ◌+◌, ◌-◌, ◌≤◌, List, ◌∷◌, ◌++◌, length, drop, slice_range, arith, ap, ap₂, subst, sym, ◌∙◌}
use Rattle.std.proofs.Math.Seq.{drop-length}
use Rattle.std.proofs.lemmas.Grind.{common_steps}
use Rattle.std.proofs.lemmas.List.{take-append-drop, drop-drop}
use Rattle.std.proofs.lemmas.List.Edits.{between_none, split_between}
use Rattle.graphql_server.specs.declared.differences.Edit.{Edit}
use Rattle.graphql_server.specs.Edited.{edited_from, AreInOrder, IsSamePart}

-- what is left of a text is a part of it and what is left after that
pub left-split : (text : List ℕ) (start end : ℕ) → start ≤ end → drop start text ≡ slice_range text start end ++ drop end text
left-split text start end le =
    let more : start + (end - start) ≡ end = omega arith in
    let left : drop (end - start) (drop start text) ≡ drop end text = drop-drop (end - start) start text ∙ ap (λ n. drop n text) more in
    sym (take-append-drop (end - start) (drop start text)) ∙ ap (λ l. slice_range text start end ++ l) left

-- what is left of a new text is made of what is left of an old one, if that is so after an edit, and what stands before the edit is in both
pub edited-step : (whole : Type 0) (passed made : ℕ) (old new : List ℕ) (edits rest : List Edit) (edit : Edit) → edits ≡ edit ∷ rest → IsSamePart old passed edit.start new made edit.new_start → edit.new_start ≤ edit.new_end → (drop made new ≡ edited_from passed old new edits → whole) → drop edit.new_end new ≡ edited_from edit.end old new rest → whole
edited-step whole passed made old new edits rest edit e part b h r =
    let P : List Edit → Type 0 = λ l. drop made new ≡ edited_from passed old new l in
    let put = left-split new edit.new_start edit.new_end b ∙ ap (λ l. slice_range new edit.new_start edit.new_end ++ l) r in
    h (subst P (sym e) (left-split new made edit.new_start part.new_rises ∙ ap₂ (λ k l. k ++ l) (sym part.same) put))

-- edits are in order if those before one are, that one is, and those after it
pub order-step : (whole : Type 0) (offset : ℕ) (old : List ℕ) (edits rest : List Edit) (edit : Edit) → edits ≡ edit ∷ rest → offset ≤ edit.start → edit.start ≤ edit.end → (AreInOrder offset old edits → whole) → AreInOrder edit.end old rest → whole
order-step whole offset old edits rest edit e a b h r =
    let P : List Edit → Type 0 = λ l. AreInOrder offset old l in
    h (subst P (sym e) (a, b, r))

-- what is left of both texts after the last edit is the same
pub left-same : (passed made : ℕ) (old new : List ℕ) → IsSamePart old passed (length old) new made (length new) → drop made new ≡ drop passed old
left-same passed made old new part = grind (arith, common_steps, left-split old passed (length old) part.old_rises, left-split new made (length new) part.new_rises, drop-length old, drop-length new, part.same)

-- an edit that puts a whole text in the place of another
pub whole_edited : (old new : List ℕ) → new ≡ slice_range old 0 0 ++ (slice_range new 0 (length new) ++ drop (length old) old)
whole_edited old new = grind (arith, common_steps, between_none old 0, split_between new 0 (length new), drop-length old, drop-length new)
