-- Where lines begin after a part of a text is replaced.
use Rattle.std.proofs.Common.{◌≡◌, ℕ, ◌+◌, ◌-◌, ◌≤◌, ◌<◌, ◌⊎◌, List, [], ◌∷◌, ◌++◌, length, map, take, drop, get_or, set, refl, sym, ap, ap₂, ◌∙◌, subst, arith, inl, inr, append_assoc, length-append, length-take, length-drop, add-zero, zero-add}
use Rattle.std.proofs.Math.Seq.{take-append_seam, drop-append_seam}
use Rattle.std.proofs.lemmas.Bool.{cases_lt}
use Rattle.std.proofs.lemmas.List.{append-nil, take-append-drop, take_all, drop_all, get_or-drop, get_or-append-add, get_or_append_left, get_or_default, set-append_right, drop-drop, length-map}
use Rattle.std.proofs.lemmas.List.Edits.{map_over_more}
use Rattle.std.proofs.lemmas.List.Elements.{All-cons, All-append, All-get_or}
use Rattle.std.proofs.lemmas.Str.{IsUtf8-take, IsUtf8-drop, IsUtf8-append}
use Rattle.std.specs.List.{All, replace_range, splice}
use Rattle.std.specs.Str.{IsUtf8, IsCharBoundary}
use Rattle.text_edits.specs.Indexes.{starts_of}
use Rattle.text_edits.specs.Starts.{starts_within, start_after, starts_from, IsBegun}
use Rattle.text_edits.proofs.Within.{inside, within-append, within-inside, within_above, within_below, inside_below, after_all, within_moved, text_starts}

-- ---- a loop that moves the numbers from the `first`th on

pub record Shifting (first from to at : ℕ) (init starts : List ℕ) : Type 0 where
  pub same : starts ≡ take first init ++ (map (λ start. to + (start - from)) (take (at - first) (drop first init)) ++ drop (at - first) (drop first init))

pub shifting_start : (first from to : ℕ) (init : List ℕ) → Shifting first from to first init init
shifting_start first from to init =
    let none : 0 ≡ first - first = omega arith in
    record { same = sym (take-append-drop first init) ∙ ap (λ (n : ℕ). take first init ++ (map (λ start. to + (start - from)) (take n (drop first init)) ++ drop n (drop first init))) none }

-- where it has not been, the list is as it was
pub shifting_read : (first from to at : ℕ) (init starts : List ℕ) → Shifting first from to at init starts → first ≤ at → at < length init → get_or starts at 0 ≡ get_or init at 0
shifting_read first from to at init starts s low high =
    let tail : List ℕ = drop first init in
    let i : ℕ = at - first in
    let front : length (take first init) ≡ first = omega (arith, length-take first init) in
    let some : length tail ≡ length init - first = length-drop first init in
    let done : length (map (λ start. to + (start - from)) (take i tail)) ≡ i = length-map (take i tail) (λ start. to + (start - from)) ∙ omega (arith, length-take i tail) in
    let a : at ≡ length (take first init) + (i + 0) = omega arith in
    let b : i + 0 ≡ length (map (λ start. to + (start - from)) (take i tail)) + 0 = omega arith in
    let c : first + (i + 0) ≡ at = omega arith in
    ap₂ (λ (l : List ℕ) (k : ℕ). get_or l k 0) s.same a
    ∙ get_or-append-add (take first init) (map (λ start. to + (start - from)) (take i tail) ++ drop i tail) (i + 0) 0
    ∙ ap (λ (k : ℕ). get_or (map (λ start. to + (start - from)) (take i tail) ++ drop i tail) k 0) b
    ∙ get_or-append-add (map (λ start. to + (start - from)) (take i tail)) (drop i tail) 0 0
    ∙ get_or-drop i tail 0 0 ∙ get_or-drop first init (i + 0) 0 ∙ ap (λ (k : ℕ). get_or init k 0) c

pub shifting_next : (first from to at x : ℕ) (init starts : List ℕ) → Shifting first from to at init starts → first ≤ at → at < length init → x ≡ get_or starts at 0
    → Shifting first from to (at + 1) init (set starts at (to + (x - from)))
shifting_next first from to at x init starts s low high read =
    let tail : List ℕ = drop first init in
    let i : ℕ = at - first in
    let body : List ℕ = map (λ start. to + (start - from)) (take i tail) ++ drop i tail in
    let front : length (take first init) ≡ first = omega (arith, length-take first init) in
    let within : i < length tail = omega (arith, length-drop first init) in
    let here : first + i ≡ at = omega arith in
    let next : i + 1 ≡ at + 1 - first = omega arith in
    let there : length (take first init) + i ≡ at = omega arith in
    let seen : x ≡ get_or body i 0 = read ∙ ap₂ (λ (l : List ℕ) (k : ℕ). get_or l k 0) s.same (sym there) ∙ get_or-append-add (take first init) body i 0 in
    let long : i < length body = omega (arith, length-append (map (λ start. to + (start - from)) (take i tail)) (drop i tail), length-map (take i tail) (λ start. to + (start - from)), length-take i tail, length-drop i tail) in
    let item : x ≡ get_or body i x = seen ∙ get_or_default body i 0 x long in
    record {
      same = ap (λ (l : List ℕ). set l at (to + (x - from))) s.same
          ∙ set-append_right (take first init) body first at (to + (x - from)) front low
          ∙ ap (λ (l : List ℕ). take first init ++ l) (map_over_more (λ start. to + (start - from)) tail body i x within refl item)
          ∙ ap (λ (n : ℕ). take first init ++ (map (λ start. to + (start - from)) (take n tail) ++ drop n tail)) next;
    }

pub shifting_end : (first from to at : ℕ) (init starts : List ℕ) → Shifting first from to at init starts → length init ≤ at → starts ≡ take first init ++ map (λ start. to + (start - from)) (drop first init)
shifting_end first from to at init starts s past =
    let tail : List ℕ = drop first init in
    let all : length tail ≤ at - first = omega (arith, length-drop first init) in
    s.same ∙ ap₂ (λ (l m : List ℕ). take first init ++ (map (λ start. to + (start - from)) l ++ m)) (take_all (at - first) tail all) (drop_all (at - first) tail all)
    ∙ ap (λ (l : List ℕ). take first init ++ l) (append-nil (map (λ start. to + (start - from)) tail))

-- ---- how many are at or before an offset

pub begun_front : (starts front back : List ℕ) (offset n : ℕ) → starts ≡ front ++ back → All (λ s. s ≤ offset) front → All (λ s. offset < s) back → IsBegun starts offset n → n ≡ length front
begun_front starts front back offset n e low high b = by (cases_lt n (length front)) (cases_lt (length front) n)
  where
    long : length starts ≡ length front + length back
    long = ap length e ∙ length-append front back

    by : (n < length front) ⊎ (length front ≤ n) → (length front < n) ⊎ (n ≤ length front) → n ≡ length front
    by (inl less) m =
        let here : get_or starts n 0 ≡ get_or front n 0 = ap (λ (l : List ℕ). get_or l n 0) e ∙ get_or_append_left front back 0 n less in
        absurd (omega (arith, b.high n (omega arith) (omega (arith, long)), here, All-get_or (λ s. s ≤ offset) front n 0 less low))
    by (inr more) (inl less) =
        let some : 0 < length back = omega (arith, b.within, long) in
        let same : length front + 0 ≡ length front = add-zero (length front) in
        let here : get_or starts (length front) 0 ≡ get_or back 0 0 = ap₂ (λ (l : List ℕ) (k : ℕ). get_or l k 0) e (sym same) ∙ get_or-append-add front back 0 0 in
        absurd (omega (arith, b.low (length front) less, here, All-get_or (λ s. offset < s) back 0 0 some high))
    by (inr more) (inr least) = omega arith

pub begun_order : (starts : List ℕ) (a b m n : ℕ) → a ≤ b → IsBegun starts a m → IsBegun starts b n → m ≤ n
begun_order starts a b m n l first second = by (cases_lt n m)
  where
    by : (n < m) ⊎ (m ≤ n) → m ≤ n
    by (inl less) = absurd (omega (arith, l, first.low n less, second.high n (omega arith) (omega (arith, first.within))))
    by (inr more) = more

-- ---- the starts of a text of three parts

-- those that are the same whatever its second part is
abbrev pub kept : List ℕ → List ℕ
kept front = 0 ∷ inside 0 front

pub three_starts : (front new back : List ℕ) → IsUtf8 (front ++ (new ++ back))
    → starts_of (front ++ (new ++ back)) ≡ kept front ++ (starts_from front new back ++ starts_within (length front + length new) back [])
three_starts front new back u =
    let f : ℕ = length front in
    let last : List ℕ = starts_within (f + length new) back [] in
    let second : starts_within (0 + f) (new ++ back) [] ≡ starts_within f new back ++ last =
    ap (λ n. starts_within n (new ++ back) []) (zero-add f) ∙ within-append f new back [] ∙ ap (λ (l : List ℕ). starts_within f new l ++ last) (append-nil back) in
    let first : starts_within 0 front ((new ++ back) ++ []) ≡ inside 0 front ++ start_after 0 front (new ++ back) =
    ap (starts_within 0 front) (append-nil (new ++ back)) ∙ within-inside 0 front (new ++ back) in
    text_starts (front ++ (new ++ back)) u
    ∙ ap (λ (l : List ℕ). 0 ∷ l) (within-append 0 front (new ++ back) [] ∙ ap₂ (λ (l m : List ℕ). l ++ m) first second
    ∙ append_assoc (inside 0 front) (start_after 0 front (new ++ back)) (starts_within f new back ++ last)
    ∙ ap (λ (l : List ℕ). inside 0 front ++ l) (sym (append_assoc (start_after 0 front (new ++ back)) (starts_within f new back) last)))

kept_below : (front : List ℕ) → All (λ s. s ≤ length front - 1) (kept front)
kept_below front = All-cons (λ s. s ≤ length front - 1) 0 (inside 0 front) (omega arith) (inside_below (length front - 1) 0 front (omega arith))

from_above : (front new back : List ℕ) → All (λ s. length front - 1 < s) (starts_from front new back ++ starts_within (length front + length new) back [])
from_above front new back =
    let f : ℕ = length front in
    All-append (λ s. f - 1 < s) (starts_from front new back) (starts_within (f + length new) back [])
    (All-append (λ s. f - 1 < s) (start_after 0 front (new ++ back)) (starts_within f new back) (after_all (λ s. f - 1 < s) 0 front (new ++ back) (λ some. omega arith)) (within_above (f - 1) f new back (omega arith)))
    (within_above (f - 1) (f + length new) back [] (omega arith))

from_below : (front new back : List ℕ) → All (λ s. s ≤ length front + length new) (kept front ++ starts_from front new back)
from_below front new back =
    let n : ℕ = length front + length new in
    All-append (λ s. s ≤ n) (kept front) (starts_from front new back)
    (All-cons (λ s. s ≤ n) 0 (inside 0 front) (omega arith) (inside_below n 0 front (omega arith)))
    (All-append (λ s. s ≤ n) (start_after 0 front (new ++ back)) (starts_within (length front) new back) (after_all (λ s. s ≤ n) 0 front (new ++ back) (λ some. omega arith)) (within_below n (length front) new back (omega arith)))

-- ---- the index after a part is replaced

-- where the starts of the middle part are put in, and those after it are moved
record Spliced (front gone new back : List ℕ) (first : ℕ) (starts : List ℕ) : Type 0 where
  same : starts ≡ (kept front ++ starts_from front new back) ++ starts_within (length front + length gone) back []
  far : first ≡ length (kept front ++ starts_from front new back)

spliced : (front gone new back old fresh starts : List ℕ) (low high first : ℕ) → IsUtf8 (front ++ (gone ++ back)) → old ≡ starts_of (front ++ (gone ++ back)) → fresh ≡ starts_from front new back
    → IsBegun old (length front - 1) low → IsBegun old (length front + length gone) high → starts ≡ splice old low high fresh → first ≡ low + length fresh → Spliced front gone new back first starts
spliced front gone new back old fresh starts low high first u is made before passed put far =
    let more : List ℕ = starts_from front gone back in
    let last : List ℕ = starts_within (length front + length gone) back [] in
    let e : old ≡ kept front ++ (more ++ last) = is ∙ three_starts front gone back u in
    let e2 : old ≡ (kept front ++ more) ++ last = e ∙ sym (append_assoc (kept front) more last) in
    let a : low ≡ length (kept front) = begun_front old (kept front) (more ++ last) (length front - 1) low e (kept_below front) (from_above front gone back) before in
    let b : high ≡ length (kept front ++ more) = begun_front old (kept front ++ more) last (length front + length gone) high e2 (from_below front gone back) (within_above (length front + length gone) (length front + length gone) back [] (omega arith)) passed in
    let stay : take low old ≡ kept front = ap₂ (λ (n : ℕ) (l : List ℕ). take n l) a e ∙ take-append_seam (kept front) (more ++ last) in
    let rest : drop high old ≡ last = ap₂ (λ (n : ℕ) (l : List ℕ). drop n l) b e2 ∙ drop-append_seam (kept front ++ more) last in
    record {
      same = put ∙ ap₂ (λ (l m : List ℕ). l ++ (fresh ++ m)) stay rest ∙ ap (λ (l : List ℕ). kept front ++ (l ++ last)) made ∙ sym (append_assoc (kept front) (starts_from front new back) last);
      far = omega (arith, far, a, ap length made, length-append (kept front) (starts_from front new back));
    }

-- what holds of each start that is moved
spliced_all : (P : ℕ → Type 0) (front gone new back starts : List ℕ) (first : ℕ) → Spliced front gone new back first starts → All P (starts_within (length front + length gone) back []) → (k : ℕ) → first ≤ k → k < length starts → P (get_or starts k 0)
spliced_all P front gone new back starts first s all k low high =
    let stay : List ℕ = kept front ++ starts_from front new back in
    let last : List ℕ = starts_within (length front + length gone) back [] in
    let long : length starts ≡ length stay + length last = ap length s.same ∙ length-append stay last in
    let here : k ≡ length stay + (k - first) = omega (arith, s.far) in
    let read : get_or starts k 0 ≡ get_or last (k - first) 0 = ap₂ (λ (l : List ℕ) (n : ℕ). get_or l n 0) s.same here ∙ get_or-append-add stay last (k - first) 0 in
    subst P (sym read) (All-get_or P last (k - first) 0 (omega (arith, long, s.far)) all)

spliced_moved : (front gone new back starts : List ℕ) (first from to : ℕ) → IsUtf8 (front ++ (new ++ back)) → Spliced front gone new back first starts → from ≡ length front + length gone → to ≡ length front + length new
    → take first starts ++ map (λ start. to + (start - from)) (drop first starts) ≡ starts_of (front ++ (new ++ back))
spliced_moved front gone new back starts first from to u s f t =
    let stay : List ℕ = kept front ++ starts_from front new back in
    let last : List ℕ = starts_within (length front + length gone) back [] in
    let left : take first starts ≡ stay = ap₂ (λ (n : ℕ) (l : List ℕ). take n l) s.far s.same ∙ take-append_seam stay last in
    let right : drop first starts ≡ last = ap₂ (λ (n : ℕ) (l : List ℕ). drop n l) s.far s.same ∙ drop-append_seam stay last in
    let old : length front + length gone ≡ from + 0 = omega (arith, f) in
    let new_is : to + 0 ≡ length front + length new = omega (arith, t) in
    let shifted : map (λ start. to + (start - from)) last ≡ starts_within (length front + length new) back [] =
    ap (λ n. map (λ start. to + (start - from)) (starts_within n back [])) old ∙ within_moved from to 0 back [] ∙ ap (λ n. starts_within n back []) new_is in
    ap₂ (λ (l m : List ℕ). l ++ map (λ start. to + (start - from)) m) left right ∙ ap (λ (l : List ℕ). stay ++ l) shifted
    ∙ append_assoc (kept front) (starts_from front new back) (starts_within (length front + length new) back []) ∙ sym (three_starts front new back u)

-- the same in terms of the text and the offsets between which it is replaced
pub record Patched (text new : List ℕ) (start end first : ℕ) (starts : List ℕ) : Type 0 where
  pub low : (k : ℕ) → first ≤ k → k < length starts → end < get_or starts k 0
  pub high : (k : ℕ) → first ≤ k → k < length starts → get_or starts k 0 ≤ length text
  pub moved : take first starts ++ map (λ s. (start + length new) + (s - end)) (drop first starts) ≡ starts_of (replace_range text start end new)

pub patched : (text new old fresh starts : List ℕ) (start end low high first : ℕ) → IsUtf8 text → IsUtf8 new → start ≤ end → IsCharBoundary text start → IsCharBoundary text end
    → old ≡ starts_of text → fresh ≡ starts_from (take start text) new (drop end text) → IsBegun old (start - 1) low → IsBegun old end high
    → starts ≡ splice old low high fresh → first ≡ low + length fresh → Patched text new start end first starts
patched text new old fresh starts start end low high first u v order b d is made before passed put far =
    let front : List ℕ = take start text in
    let gone : List ℕ = take (end - start) (drop start text) in
    let back : List ℕ = drop end text in
    let f : length front ≡ start = omega (arith, length-take start text, b.0) in
    let g : length front + length gone ≡ end = omega (arith, f, length-take (end - start) (drop start text), length-drop start text, d.0) in
    let there : start + (end - start) ≡ end = omega arith in
    let rest : drop (end - start) (drop start text) ≡ back = drop-drop (end - start) start text ∙ ap (λ n. drop n text) there in
    let whole : text ≡ front ++ (gone ++ back) =
    sym (take-append-drop start text) ∙ ap (λ (l : List ℕ). front ++ l) (sym (take-append-drop (end - start) (drop start text))) ∙ ap (λ (l : List ℕ). front ++ (gone ++ l)) rest in
    let joined : front ++ (new ++ back) ≡ replace_range text start end new = sym (append_assoc front new back) in
    let valid : IsUtf8 (front ++ (new ++ back)) = IsUtf8-append front (new ++ back) (IsUtf8-take text start u b) (IsUtf8-append new back v (IsUtf8-drop text end u d)) in
    let s = spliced front gone new back old fresh starts low high first (subst IsUtf8 whole u) (is ∙ ap starts_of whole) made (subst (λ n. IsBegun old (n - 1) low) (sym f) before) (subst (λ n. IsBegun old n high) (sym g) passed) put far in
    let to : start + length new ≡ length front + length new = omega (arith, f) in
    let n : ℕ = length front + length gone in
    let long : n + length back ≡ length text = omega (arith, g, length-drop end text, d.0) in
    record {
      low = λ k l h. omega (arith, g, spliced_all (λ x. n < x) front gone new back starts first s (within_above n n back [] (omega arith)) k l h);
      high = λ k l h. spliced_all (λ x. x ≤ length text) front gone new back starts first s (within_below (length text) n back [] (omega (arith, long))) k l h;
      moved = spliced_moved front gone new back starts first end (start + length new) valid s (sym g) to ∙ ap starts_of joined;
    }

-- what a call writes into a list through a slice of all of it
pub written : (len first from to : ℕ) (items slice starts : List ℕ) → slice ≡ items → length slice ≡ len → starts ≡ take first slice ++ map (λ s. to + (s - from)) (drop first slice)
    → take len (starts ++ drop (length starts) items) ≡ take first items ++ map (λ s. to + (s - from)) (drop first items)
written len first from to items slice starts same long is =
    let many : length starts ≡ length slice = ap length is ∙ omega (arith, length-append (take first slice) (map (λ s. to + (s - from)) (drop first slice)), length-take first slice, length-drop first slice, length-map (drop first slice) (λ s. to + (s - from))) in
    let none : drop (length starts) items ≡ [] = drop_all (length starts) items (omega (arith, many, ap length same)) in
    ap (λ (l : List ℕ). take len (starts ++ l)) none ∙ ap (take len) (append-nil starts) ∙ take_all len starts (omega (arith, many, long)) ∙ is ∙ ap (λ (l : List ℕ). take first l ++ map (λ s. to + (s - from)) (drop first l)) same
