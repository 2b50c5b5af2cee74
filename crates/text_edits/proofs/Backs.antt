-- From a byte offset of a text to its position and back.
use Rattle.std.proofs.Common.{◌≡◌, ℕ, ◌+◌, List, [], ◌∷◌, ◌++◌, take, drop, refl, sym, ap, ap₂, ◌∙◌, arith, append_assoc}
use Rattle.std.specs.Str.{chars, IsUtf8, IsCharBoundary}
use Rattle.text_edits.specs.declared.Encoding.{Encoding}
use Rattle.text_edits.specs.declared.Encoding.TheVariants.{Utf8}
use Rattle.text_edits.specs.Lines.{lines}
use Rattle.text_edits.specs.Positions.{offset_of, position_of, IsInLineEnd}
use Rattle.text_edits.specs.Units.{width}
use Rattle.text_edits.proofs.Boundaries.{width_front}
use Rattle.text_edits.proofs.Cuts.{chars_split}
use Rattle.text_edits.proofs.Rounds.{InEnd, snap, snaps, snaps_in_end, offset_back}
use Rattle.text_edits.proofs.Widths.{width-append}

in_end : (text : List ℕ) (offset : ℕ) → IsUtf8 text → IsCharBoundary text offset → InEnd (chars (take offset text)) (chars (drop offset text)) → IsInLineEnd text offset
in_end text offset u b i = record {
  front = i.before;
  rest = i.later;
  whole = chars_split text offset u b ∙ ap₂ (λ (x y : List ℕ). x ++ y) i.returns i.feeds ∙ append_assoc i.before (13 ∷ []) (10 ∷ i.later);
  here = sym (width_front text offset u b) ∙ ap (width Utf8) i.returns ∙ width-append Utf8 i.before (13 ∷ []);
}

pub back : (encoding : Encoding) (text : List ℕ) (offset : ℕ) → IsUtf8 text → IsCharBoundary text offset → ¬ (IsInLineEnd text offset) → offset_of encoding text (position_of encoding text offset) ≡ offset
back encoding text offset u b free =
    let wide = width_front text offset u b in
    let ls : List (List ℕ) = lines (chars text) in
    offset_back encoding ls offset ∙ ap (snap ls) (sym wide)
    ∙ snaps ls (chars text) (chars (take offset text)) (chars (drop offset text)) refl (chars_split text offset u b) (λ i. free (in_end text offset u b i)) ∙ wide

pub back_in_end : (encoding : Encoding) (text : List ℕ) (offset : ℕ) → IsInLineEnd text offset → offset_of encoding text (position_of encoding text offset) + 1 ≡ offset
back_in_end encoding text offset i =
    let ls : List (List ℕ) = lines (chars text) in
    let before : offset_of encoding text (position_of encoding text offset) ≡ width Utf8 i.front =
    offset_back encoding ls offset ∙ ap (snap ls) i.here ∙ snaps_in_end ls (chars text) i.front i.rest refl i.whole in
    omega (arith, before, i.here)
