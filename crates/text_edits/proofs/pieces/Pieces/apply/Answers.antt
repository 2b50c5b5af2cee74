use Rattle.std.proofs.Common.{◌≡◌, ℕ, suc, ◌-◌, ◌<◌, ◌≤◌, ◌++◌, All, List, [], length, drop, get_or, take, set, min, max, refl, sym, ap, ap₂, ◌∙◌, subst, arith}
use Rattle.std.proofs.lemmas.List.{get_or_default, take_all}
use Rattle.std.proofs.lemmas.List.Elements.{All-set}
use Rattle.std.proofs.lemmas.Result.{on_ok_weaker}
use Rattle.std.specs.List.{concat, sum_by}
use Rattle.std.specs.Str.{chars}
use Rattle.text_edits.specs.declared.Encoding.{Encoding}
use Rattle.text_edits.specs.Pieces.{IsPiece, IsFoundAt, lines_ended}
use Rattle.text_edits.proofs.InPieces.{Changed, Whole, position, whole_front, changed_rest, changed_front, changed_piece, changed_is, kept_piece, set_piece, around_piece, cut_pieces, spread, rest_of}
use Rattle.text_edits.proofs.pieces.Pieces.apply.Goals.{After-self-1}
use Rattle.text_edits.proofs.pieces.Pieces.apply.Goals as goal

-- the first piece of the range, and that of its other end
record Ends (pieces : List (List ℕ)) (index passed m n : ℕ) : Type 0 where
  pub whole : Whole (concat (take index pieces)) passed
  pub low : passed ≤ m
  pub less : passed ≤ n

ends : (pieces found : List (List ℕ)) (index passed low m n : ℕ) → found ≡ pieces → All IsPiece pieces → IsFoundAt found low index passed → low ≡ min m n → Ends pieces index passed m n
ends pieces found index passed low m n same all at least =
    let is : IsFoundAt pieces low index passed = subst (λ (l : List (List ℕ)). IsFoundAt l low index passed) same at in
    record { whole = whole_front pieces index passed all is.before; low = omega (arith, is.low, least); less = omega (arith, is.low, least) }

-- both ends are in the same piece
in_piece : (pieces found : List (List ℕ)) (index passed last after high m n : ℕ) → found ≡ pieces → index ≡ last → index < length pieces → passed ≡ sum_by lines_ended (take index pieces)
    → IsFoundAt found high last after → high ≡ max m n → passed ≤ m → passed ≤ n → (m - passed < lines_ended (get_or pieces index [])) × (n - passed < lines_ended (get_or pieces index []))
in_piece pieces found index passed last after high m n same one within before at most low less =
    let is : IsFoundAt pieces high index after = subst (λ (k : ℕ). IsFoundAt pieces high k after) (sym one) (subst (λ (l : List (List ℕ)). IsFoundAt l high last after) same at) in
    let far = is.high within in
    (omega (arith, far, is.before, before, most), omega (arith, far, is.before, before, most))

-- what is known of a change within a piece
record Here (c : After-self-1) : Type 0 where
  pub within : c.place_of-first.result.index < length c.self.inside.front.items
  pub ends : Ends c.self.inside.front.items c.place_of-first.result.index c.place_of-first.result.passed c.args.range.start.line c.args.range.end.line
  pub lines : (c.args.range.start.line - c.place_of-first.result.passed < lines_ended (get_or c.self.inside.front.items c.place_of-first.result.index []))
      × (c.args.range.end.line - c.place_of-first.result.passed < lines_ended (get_or c.self.inside.front.items c.place_of-first.result.index []))
  pub old : c.index_mut.result.now ≡ get_or c.self.inside.front.items c.place_of-first.result.index []

here : (c : After-self-1) → Here c
here c =
    let pieces : List (List ℕ) = c.self.inside.front.items in
    let i : ℕ = c.place_of-first.result.index in
    let passed : ℕ = c.place_of-first.result.passed in
    let m : ℕ = c.args.range.start.line in
    let n : ℕ = c.args.range.end.line in
    let within : i < length pieces = omega arith in
    let e = ends pieces c.deref.result.now i passed c.min.result m n c.deref.ensures.value c.self.invariant c.place_of-first.ensures c.min.ensures in
    let first : IsFoundAt pieces c.min.result i passed = subst (λ (l : List (List ℕ)). IsFoundAt l c.min.result i passed) c.deref.ensures.value c.place_of-first.ensures in
    record {
      within = within;
      ends = e;
      lines = in_piece pieces c.deref-2.result.now i passed c.place_of-last.result.index c.place_of-last.result.passed c.max.result m n c.deref-2.ensures.value (omega arith) within first.before c.place_of-last.ensures c.max.ensures e.low e.less;
      old = c.index_mut.ensures.value ∙ get_or_default pieces i c.index_mut.result.now [] within;
    }

-- the places of the range in the piece
local : (c : After-self-1) → (c.after_lines-range.result.start ≡ position (c.args.range.start.line - c.place_of-first.result.passed) c.args.range.start.character)
    × (c.after_lines-range.result.end ≡ position (c.args.range.end.line - c.place_of-first.result.passed) c.args.range.end.character)
local c = (c.after_lines-range.ensures.start, c.after_lines-range.ensures.end)

pub invariant_of-self-then-first-len : goal.invariant_of-self-then-first-len
invariant_of-self-then-first-len c =
    let pieces : List (List ℕ) = c.self.inside.front.items in
    let i : ℕ = c.place_of-first.result.index in
    let passed : ℕ = c.place_of-first.result.passed in
    let k = here c in
    let l = local c in
    let piece : List ℕ = get_or pieces i [] in
    let new : List ℕ = c.apply-then-first-len.new.self in
    let text : List ℕ = c.args.new.now in
    let p : IsPiece piece = c.self.invariant i [] k.within in
    All-set IsPiece pieces i new
    (kept_piece c.apply-then-first-len.result piece c.index_mut.result.now new k.old p
    (on_ok_weaker c.apply-then-first-len.result
    (λ h. changed_piece c.args.encoding piece new text (c.args.range.start.line - passed) c.args.range.start.character (c.args.range.end.line - passed) c.args.range.end.character p c.apply-then-first-len.ensures.valid k.lines.0 k.lines.1
    (changed_is c.args.encoding c.index_mut.result.now piece new text _ _ _ _ k.old l.0 l.1 h)) c.apply-then-first-len.ensures.ok)
    c.apply-then-first-len.ensures.err)
    c.self.invariant

pub returns-then-first-len : goal.returns-then-first-len
returns-then-first-len c =
    let e : Encoding = c.args.encoding in
    let pieces : List (List ℕ) = c.self.inside.front.items in
    let i : ℕ = c.place_of-first.result.index in
    let passed : ℕ = c.place_of-first.result.passed in
    let m : ℕ = c.args.range.start.line in
    let n : ℕ = c.args.range.end.line in
    let x : ℕ = c.args.range.start.character in
    let y : ℕ = c.args.range.end.character in
    let k = here c in
    let l = local c in
    let front : List ℕ = concat (take i pieces) in
    let piece : List ℕ = get_or pieces i [] in
    let back : List ℕ = concat (drop (suc i) pieces) in
    let last : List ℕ = c.self.inside.last in
    let new : List ℕ = c.apply-then-first-len.new.self in
    let text : List ℕ = c.args.new.now in
    let p : IsPiece piece = c.self.invariant i [] k.within in
    let was : front ++ (piece ++ (back ++ last)) ≡ c.args.self.now = sym (spread front piece back last) ∙ ap (λ (z : List ℕ). z ++ last) (sym (around_piece pieces i k.within)) ∙ c.self.view_is in
    let is : concat (set pieces i new) ++ last ≡ front ++ (new ++ (back ++ last)) = ap (λ (z : List ℕ). z ++ last) (set_piece pieces i new k.within) ∙ spread front new back last in
    on_ok_weaker c.apply-then-first-len.result
    (λ h.
    let one : Changed e piece new text (position (m - passed) x) (position (n - passed) y) = changed_is e c.index_mut.result.now piece new text _ _ _ _ k.old l.0 l.1 h in
    let all = changed_rest e front (piece ++ (back ++ last)) (new ++ (back ++ last)) text passed m x n y k.ends.whole k.ends.low k.ends.less
    (changed_front e piece (back ++ last) new text (m - passed) x (n - passed) y p c.apply-then-first-len.ensures.valid k.lines.0 k.lines.1 one) in
    ap chars is ∙ changed_is e (front ++ (piece ++ (back ++ last))) c.args.self.now (front ++ (new ++ (back ++ last))) text (position m x) (position m x) (position n y) (position n y) was refl refl all)
    c.apply-then-first-len.ensures.ok

pub returns-else-first-len : goal.returns-else-first-len
returns-else-first-len c =
    let e : Encoding = c.args.encoding in
    let pieces : List (List ℕ) = c.self.inside.front.items in
    let i : ℕ = c.place_of-first.result.index in
    let passed : ℕ = c.place_of-first.result.passed in
    let m : ℕ = c.args.range.start.line in
    let n : ℕ = c.args.range.end.line in
    let x : ℕ = c.args.range.start.character in
    let y : ℕ = c.args.range.end.character in
    let k = ends pieces c.deref.result.now i passed c.min.result m n c.deref.ensures.value c.self.invariant c.place_of-first.ensures c.min.ensures in
    let last : List ℕ = c.self.inside.last in
    let new : List ℕ = c.apply-else-first-len.new.self in
    let text : List ℕ = c.args.new.now in
    let behind : length pieces ≤ i = omega arith in
    let front : concat (take i pieces) ≡ concat pieces = ap concat (take_all i pieces behind) in
    on_ok_weaker c.apply-else-first-len.result
    (λ h.
    let one : Changed e last new text (position (m - passed) x) (position (n - passed) y) = changed_is e last last new text _ _ _ _ refl c.after_lines-range.ensures.start c.after_lines-range.ensures.end h in
    let all = changed_rest e (concat (take i pieces)) last new text passed m x n y k.whole k.low k.less one in
    ap chars (ap (λ (z : List ℕ). z ++ new) (sym front))
    ∙ changed_is e (concat (take i pieces) ++ last) c.args.self.now (concat (take i pieces) ++ new) text (position m x) (position m x) (position n y) (position n y) (ap (λ (z : List ℕ). z ++ last) front ∙ c.self.view_is) refl refl all)
    c.apply-else-first-len.ensures.ok

pub returns-in_ok-self-inside : goal.returns-in_ok-self-inside
returns-in_ok-self-inside c =
    let e : Encoding = c.args.encoding in
    let pieces : List (List ℕ) = c.self.inside.front.items in
    let i : ℕ = c.place_of-first.result.index in
    let passed : ℕ = c.place_of-first.result.passed in
    let m : ℕ = c.args.range.start.line in
    let n : ℕ = c.args.range.end.line in
    let x : ℕ = c.args.range.start.character in
    let y : ℕ = c.args.range.end.character in
    let k = ends pieces c.deref.result.now i passed c.min.result m n c.deref.ensures.value c.self.invariant c.place_of-first.ensures c.min.ensures in
    let last : List ℕ = c.self.inside.last in
    let new : List ℕ = c.apply.new.self in
    let text : List ℕ = c.args.new.now in
    let front : List ℕ = concat (take i pieces) in
    let rest : List ℕ = concat (drop i pieces) ++ last in
    let old : c.in_ok-rest.rest ≡ rest =
    c.in_ok-rest.ensures ∙ c.in_ok-text.ensures ∙ ap (λ (z : List (List ℕ)). concat z ++ last) (rest_of c.deref-then-first-last.result.now pieces i c.deref-then-first-last.ensures.value) in
    let is : concat c.cut.new.front.items ++ c.in_ok-self-inside.field-0 ≡ front ++ new =
    c.in_ok-self-inside.ensures.whole ∙ ap₂ (λ (z : List (List ℕ)) (t : List ℕ). concat z ++ t) c.truncate.ensures.items c.text.ensures in
    let one : Changed e rest new text (position (m - passed) x) (position (n - passed) y) = changed_is e c.in_ok-rest.rest rest new text _ _ _ _ old c.after_lines-range.ensures.start c.after_lines-range.ensures.end c.in_ok-apply.ensures.ok in
    let all = changed_rest e front rest new text passed m x n y k.whole k.low k.less one in
    ap chars is ∙ changed_is e (front ++ rest) c.args.self.now (front ++ new) text (position m x) (position m x) (position n y) (position n y) (cut_pieces pieces i last ∙ c.self.view_is) refl refl all
