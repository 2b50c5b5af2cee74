-- A text that is cut after some of its characters.
use Rattle.std.proofs.Common.{◌≡◌, ℕ, ◌+◌, ◌-◌, ◌≤◌, ◌<◌, ◌⊎◌, Bool, true, false, ◌&&◌, List, [], ◌∷◌, ◌++◌, length, take, drop, max, refl, sym, ap, ap₂, ◌∙◌, subst, arith, inl, inr, append_assoc, length-take}
use Rattle.std.proofs.Math.Seq.{take-append_seam, drop-append_seam}
use Rattle.std.proofs.lemmas.Bool.{cases_lt}
use Rattle.std.proofs.lemmas.Str.{chars-append, encodes-append, encodes-chars, chars-encodes, scalars-chars, IsUtf8-take, IsUtf8-drop, IsCharBoundary-at_seam, IsCharBoundary-from_rest}
use Rattle.std.specs.Str.{chars, IsUtf8, IsCharBoundary, encode_utf8_all, all_scalars}
use Rattle.text_edits.specs.declared.Encoding.{Encoding}
use Rattle.text_edits.specs.declared.Encoding.TheVariants.{Utf8}
use Rattle.text_edits.specs.Edits.{before, from, replaced}
use Rattle.text_edits.specs.Lines.{is_line_end, content}
use Rattle.text_edits.specs.Units.{units, width, fitting}
use Rattle.text_edits.proofs.Cuts.{chars_split}
use Rattle.text_edits.proofs.Widths.{width_encodes, width-chars, fitting_some, fits}

both : (x y : Bool) → (x && y) ≡ true → (x ≡ true) × (y ≡ true)
both true y e = (refl, e)
both false y e = absurd cc

scalars_both : (xs ys : List ℕ) → all_scalars (xs ++ ys) ≡ true → (all_scalars xs ≡ true) × (all_scalars ys ≡ true)
scalars_both [] ys e = (refl, e)
scalars_both (x ∷ xs) ys e =
    let h = both _ (all_scalars (xs ++ ys)) e in
    let more = scalars_both xs ys h.1 in
    (rw (h.0, more.0) refl, more.1)

pub record CutAt (bs front rest : List ℕ) : Type 0 where
  pub boundary : IsCharBoundary bs (width Utf8 front)
  pub before : chars (take (width Utf8 front) bs) ≡ front
  pub after : chars (drop (width Utf8 front) bs) ≡ rest

pub cut_at : (bs front rest : List ℕ) → IsUtf8 bs → chars bs ≡ front ++ rest → CutAt bs front rest
cut_at bs front rest u whole =
    let all : all_scalars (front ++ rest) ≡ true = ap all_scalars (sym whole) ∙ scalars-chars bs u in
    let each = scalars_both front rest all in
    let e : bs ≡ encode_utf8_all front ++ encode_utf8_all rest = sym (encodes-chars bs u) ∙ ap encode_utf8_all whole ∙ encodes-append front rest in
    let long : length (encode_utf8_all front) ≡ width Utf8 front = sym (width_encodes front) in
    let text : IsUtf8 (encode_utf8_all rest) = (rest, (each.1, refl)) in
    let cut : IsCharBoundary bs (length (encode_utf8_all front)) = IsCharBoundary-at_seam bs (encode_utf8_all front) (encode_utf8_all rest) e text in
    let first : take (length (encode_utf8_all front)) bs ≡ encode_utf8_all front = ap (take (length (encode_utf8_all front))) e ∙ take-append_seam (encode_utf8_all front) (encode_utf8_all rest) in
    let last : drop (length (encode_utf8_all front)) bs ≡ encode_utf8_all rest = ap (drop (length (encode_utf8_all front))) e ∙ drop-append_seam (encode_utf8_all front) (encode_utf8_all rest) in
    record {
      boundary = subst (IsCharBoundary bs) long cut;
      before = ap (λ n. chars (take n bs)) (sym long) ∙ ap chars first ∙ chars-encodes front each.0;
      after = ap (λ n. chars (drop n bs)) (sym long) ∙ ap chars last ∙ chars-encodes rest each.1;
    }

-- ---- the characters before a place where the text may be cut

pub width_front : (bs : List ℕ) (i : ℕ) → IsUtf8 bs → IsCharBoundary bs i → width Utf8 (chars (take i bs)) ≡ i
width_front bs i u b = width-chars (take i bs) (IsUtf8-take bs i u b) ∙ omega (arith, length-take i bs, b.0)

-- a front that fits is no longer than what fits
longest : (front rest : List ℕ) (n : ℕ) → width Utf8 front ≤ n → width Utf8 front ≤ width Utf8 (fitting Utf8 n (front ++ rest))
longest [] rest n l = omega arith
longest (c ∷ front) rest n l =
    rw (fitting_some Utf8 n c (front ++ rest) (omega arith)) (omega (arith, longest front rest (n - units Utf8 c) (omega arith)))

-- the last place up to an offset where the text may be cut is where what fits ends
pub floor_is : (bs : List ℕ) (offset floor : ℕ) → IsUtf8 bs → floor ≤ offset → IsCharBoundary bs floor → ((i : ℕ) → floor < i → i ≤ offset → ¬ (IsCharBoundary bs i))
    → floor ≡ width Utf8 (fitting Utf8 offset (chars bs))
floor_is bs offset floor u l b none =
    let f = fits Utf8 offset (chars bs) in
    let k = width Utf8 (fitting Utf8 offset (chars bs)) in
    let cut = cut_at bs (fitting Utf8 offset (chars bs)) f.rest u f.whole in
    let wide = width_front bs floor u b in
    let low : width Utf8 (chars (take floor bs)) ≤ width Utf8 (fitting Utf8 offset (chars (take floor bs) ++ chars (drop floor bs))) = longest (chars (take floor bs)) (chars (drop floor bs)) offset (omega arith) in
    let same : width Utf8 (fitting Utf8 offset (chars (take floor bs) ++ chars (drop floor bs))) ≡ k = ap (λ (l : List ℕ). width Utf8 (fitting Utf8 offset l)) (sym (chars_split bs floor u b)) in
    by k (cases_lt floor k) (λ less. none k less f.within cut.boundary) (omega arith)
  where
    by : (k : ℕ) → (floor < k) ⊎ (k ≤ floor) → (floor < k → ⊥) → floor ≤ k → floor ≡ k
    by k (inl less) refuted low = absurd (refuted less)
    by k (inr more) refuted low = omega arith

-- ---- the first line is a front

pub content_front : (cs : List ℕ) → (rest : List ℕ) × (cs ≡ content cs ++ rest)
content_front [] = ([], refl)
content_front (c ∷ cs) = by (is_line_end c) refl (content_front cs)
  where
    by : (b : Bool) → is_line_end c ≡ b → ((rest : List ℕ) × (cs ≡ content cs ++ rest)) → (rest : List ℕ) × (c ∷ cs ≡ content (c ∷ cs) ++ rest)
    by true e f = (c ∷ cs, rw e refl)
    by false e f = (f.0, rw e (ap (λ (l : List ℕ). c ∷ l) f.1))

-- so many bytes from the start of a line on, the text may be cut
pub boundary_in_line : (bs : List ℕ) (n : ℕ) (line : List ℕ) (encoding : Encoding) → IsUtf8 bs → content (chars bs) ≡ line → IsCharBoundary bs (width Utf8 (fitting encoding n line))
boundary_in_line bs n line encoding u e =
    let f = fits encoding n line in
    let g = content_front (chars bs) in
    let whole : chars bs ≡ fitting encoding n line ++ (f.rest ++ g.0) =
    g.1 ∙ ap (λ (l : List ℕ). l ++ g.0) (e ∙ f.whole) ∙ append_assoc (fitting encoding n line) f.rest g.0 in
    (cut_at bs (fitting encoding n line) (f.rest ++ g.0) u whole).boundary

-- the same from where a line of the text begins
pub boundary_on_line : (bs rest line : List ℕ) (start n k : ℕ) (encoding : Encoding) → IsUtf8 bs → IsCharBoundary bs start → rest ≡ drop start bs → chars line ≡ content (chars rest)
    → k ≡ width Utf8 (fitting encoding n (chars line)) → IsCharBoundary bs (start + k)
boundary_on_line bs rest line start n k encoding u b e same is =
    let holds : content (chars (drop start bs)) ≡ chars line = ap (λ (l : List ℕ). content (chars l)) (sym e) ∙ sym same in
    let there = boundary_in_line (drop start bs) n (chars line) encoding (IsUtf8-drop bs start u b) holds in
    IsCharBoundary-from_rest bs start k b.0 (subst (IsCharBoundary (drop start bs)) (sym is) there)

-- ---- what is before and after the last place up to an offset where the text may be cut

pub fitting_rises : (m n : ℕ) (cs : List ℕ) → m ≤ n → width Utf8 (fitting Utf8 m cs) ≤ width Utf8 (fitting Utf8 n cs)
fitting_rises m n cs l =
    let f = fits Utf8 m cs in
    let h : width Utf8 (fitting Utf8 m cs) ≤ width Utf8 (fitting Utf8 n (fitting Utf8 m cs ++ f.rest)) = longest (fitting Utf8 m cs) f.rest n (omega (arith, f.within)) in
    subst (λ (k : List ℕ). width Utf8 (fitting Utf8 m cs) ≤ width Utf8 (fitting Utf8 n k)) (sym f.whole) h

pub before_floor : (bs : List ℕ) (offset floor : ℕ) → IsUtf8 bs → floor ≡ width Utf8 (fitting Utf8 offset (chars bs)) → chars (take floor bs) ≡ before offset (chars bs)
before_floor bs offset floor u e =
    let f = fits Utf8 offset (chars bs) in
    ap (λ n. chars (take n bs)) e ∙ (cut_at bs (fitting Utf8 offset (chars bs)) f.rest u f.whole).before

pub after_floor : (bs : List ℕ) (offset floor : ℕ) → IsUtf8 bs → floor ≡ width Utf8 (fitting Utf8 offset (chars bs)) → chars (drop floor bs) ≡ from offset (chars bs)
after_floor bs offset floor u e =
    let f = fits Utf8 offset (chars bs) in
    let front : List ℕ = fitting Utf8 offset (chars bs) in
    let rest : drop (length front) (chars bs) ≡ f.rest = ap (drop (length front)) f.whole ∙ drop-append_seam front f.rest in
    ap (λ n. chars (drop n bs)) e ∙ (cut_at bs front f.rest u f.whole).after ∙ sym rest

-- three texts one after another
pub chars_three : (xs ys zs : List ℕ) → IsUtf8 xs → IsUtf8 ys → chars ((xs ++ ys) ++ zs) ≡ chars xs ++ (chars ys ++ chars zs)
chars_three xs ys zs u v =
    ap chars (append_assoc xs ys zs) ∙ chars-append xs (ys ++ zs) u ∙ ap (λ (l : List ℕ). chars xs ++ l) (chars-append ys zs v)

-- a text with a part replaced between two places where it may be cut
pub chars_replaced : (text new : List ℕ) (start end : ℕ) → IsUtf8 text → IsUtf8 new → IsCharBoundary text start → IsCharBoundary text end → start ≤ end
    → chars ((take start text ++ new) ++ drop end text) ≡ replaced (chars text) start end (chars new)
chars_replaced text new start end u v b d order =
    let a = floor_is text start start u (omega arith) b (λ i l h. absurd (omega arith)) in
    let z = floor_is text end end u (omega arith) d (λ i l h. absurd (omega arith)) in
    let last : end ≡ max start end = omega arith in
    chars_three (take start text) new (drop end text) (IsUtf8-take text start u b) v
    ∙ ap₂ (λ (x y : List ℕ). x ++ (chars new ++ y)) (before_floor text start start u a) (after_floor text end end u z ∙ ap (λ n. from n (chars text)) last)

pub boundary_max : (text : List ℕ) (start end : ℕ) → IsCharBoundary text start → IsCharBoundary text end → IsCharBoundary text (max start end)
boundary_max text start end b d = by (cases_lt start end)
  where
    by : (start < end) ⊎ (end ≤ start) → IsCharBoundary text (max start end)
    by (inl less) = let e : end ≡ max start end = omega arith in subst (IsCharBoundary text) e d
    by (inr more) = let e : start ≡ max start end = omega arith in subst (IsCharBoundary text) e b
