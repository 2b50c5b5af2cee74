-- A text in pieces: where its lines are, and what a change of one piece makes of the text.
use Rattle.std.proofs.Common.{◌≡◌, ℕ, zero, suc, ◌+◌, ◌-◌, ◌≤◌, ◌<◌, ◌⊎◌, true, false, max, Some, Result, Ok, Err, OnOk, OnErr, All, List, [], ◌∷◌, ◌++◌, length, take, drop, get_or, set, refl, sym, ap, ap₂, ◌∙◌, subst, arith, inl, inr, append_assoc, length-append, length-drop, zero-add, add-one}
use Rattle.std.proofs.Math.Seq.{take-suc}
use Rattle.std.proofs.lemmas.Bool.{cases_Bool, cases_lt, eqb-true}
use Rattle.std.proofs.lemmas.List.{append-nil, append_cancel_right, get_or-drop, get_or_append_left, get_or-append-add, set-get_or, take_all, take-append-drop}
use Rattle.std.proofs.lemmas.List.Elements.{All-take, recursion_from_All}
use Rattle.std.proofs.lemmas.List.Folds.{concat-append}
use Rattle.std.proofs.lemmas.List.Sums.{sum_by-cons, sum_by_push}
use Rattle.std.proofs.lemmas.Str.{chars-append, chars-encodes, IsUtf8-append, IsUtf8-nil, IsUtf8-take, IsCharBoundary-before_ascii, IsCharBoundary-after_ascii}
use Rattle.std.specs.List.{concat, sum_by, AllByRecursion}
use Rattle.std.specs.Str.{chars, IsUtf8}
use Rattle.memchr.specs.Find.{IsFirstByte, is_byte}
use Rattle.text_edits.specs.declared.Encoding.{Encoding}
use Rattle.text_edits.specs.declared.Encoding.TheVariants.{Utf8}
use Rattle.text_edits.specs.declared.Position.{Position}
use Rattle.text_edits.specs.Edits.{before, from, replaced}
use Rattle.text_edits.specs.Lines.{ends_line, onto_first_line, lines, content}
use Rattle.text_edits.specs.Pieces.{IsPiece, IsPieceEnd, lines_ended}
use Rattle.text_edits.specs.Positions.{start_of, line_at, offset_in, offset_of}
use Rattle.text_edits.specs.Units.{units, width, fitting}
use Rattle.text_edits.proofs.Cuts.{ascii_char, chars_split}
use Rattle.text_edits.proofs.Rounds.{Lined, lined}
use Rattle.text_edits.proofs.Widths.{width-append, width-chars, width_fitting_le, fitting_some, fitting_none, fitting_zero, fits}

-- ---- lines one after another

start_append : (xs ys : List (List ℕ)) (n : ℕ) → start_of (xs ++ ys) (length xs + n) ≡ start_of xs (length xs) + start_of ys n
start_append [] ys n = ap (start_of ys) (zero-add n) ∙ sym (zero-add (start_of ys n))
start_append (x ∷ xs) ys n =
    let here : length (x ∷ xs) + n ≡ suc (length xs + n) = omega arith in
    let there : start_of (x ∷ (xs ++ ys)) (length (x ∷ xs) + n) ≡ width Utf8 x + start_of (xs ++ ys) (length xs + n) = ap (start_of (x ∷ (xs ++ ys))) here in
    omega (arith, there, start_append xs ys n)

start_front : (xs ys zs : List (List ℕ)) (n : ℕ) → n ≤ length xs → start_of (xs ++ ys) n ≡ start_of (xs ++ zs) n
start_front xs ys zs zero l = refl
start_front [] ys zs (suc n) l = absurd (omega arith)
start_front (x ∷ xs) ys zs (suc n) l = ap (λ k. width Utf8 x + k) (start_front xs ys zs n (omega arith))

abbrev pub position : ℕ → ℕ → Position
position line character = record { line = line; character = character }

offset_behind : (e : Encoding) (xs ys : List (List ℕ)) (n c : ℕ) → offset_in e (xs ++ ys) (position (length xs + n) c) ≡ start_of xs (length xs) + offset_in e ys (position n c)
offset_behind e xs ys n c =
    let line : line_at (xs ++ ys) (length xs + n) ≡ line_at ys n = ap content (get_or-append-add xs ys n []) in
    let wide : width Utf8 (fitting e c (line_at (xs ++ ys) (length xs + n))) ≡ width Utf8 (fitting e c (line_at ys n)) = ap (λ (l : List ℕ). width Utf8 (fitting e c l)) line in
    omega (arith, start_append xs ys n, wide)

offset_front : (e : Encoding) (xs ys zs : List (List ℕ)) (n c : ℕ) → n < length xs → offset_in e (xs ++ ys) (position n c) ≡ offset_in e (xs ++ zs) (position n c)
offset_front e xs ys zs n c l =
    let line : line_at (xs ++ ys) n ≡ line_at (xs ++ zs) n = ap content (get_or_append_left xs ys [] n l ∙ sym (get_or_append_left xs zs [] n l)) in
    ap₂ (λ (a : ℕ) (k : List ℕ). a + width Utf8 (fitting e c k)) (start_front xs ys zs n (omega arith)) line

-- a position on a line that has an end is before that end
offset_short : (e : Encoding) (xs : List (List ℕ)) (m : List ℕ) (n c : ℕ) → Lined (xs ++ (m ∷ [])) → n < length xs → offset_in e (xs ++ (m ∷ [])) (position n c) < start_of (xs ++ (m ∷ [])) (length xs)
offset_short e [] m n c each l = absurd (omega arith)
offset_short e (x ∷ []) m zero c each l = omega (arith, each.0, width_fitting_le e Utf8 c (content x))
offset_short e (x ∷ []) m (suc n) c each l = absurd (omega arith)
offset_short e (x ∷ y ∷ xs) m zero c each l = omega (arith, each.0, width_fitting_le e Utf8 c (content x))
offset_short e (x ∷ y ∷ xs) m (suc n) c each l = omega (arith, offset_short e (y ∷ xs) m n c each.1 (omega arith))

-- ---- characters after which a line begins

-- whatever comes after them, its lines come after theirs
pub record Ended (cs : List ℕ) : Type 0 where
  pub ls : List (List ℕ)
  pub is : (ys : List ℕ) → lines (cs ++ ys) ≡ ls ++ lines ys
  pub wide : start_of ls (length ls) ≡ width Utf8 cs

abbrev ended_nil : Ended []
ended_nil = record { ls = []; is = λ ys. refl; wide = refl }

abbrev ended_is : (cs ds : List ℕ) → cs ≡ ds → Ended cs → Ended ds
ended_is cs ds same e = record {
  ls = e.ls;
  is = λ ys. ap (λ (l : List ℕ). lines (l ++ ys)) (sym same) ∙ e.is ys;
  wide = e.wide ∙ ap (width Utf8) same;
}

abbrev ended_append : (cs ds : List ℕ) → Ended cs → Ended ds → Ended (cs ++ ds)
ended_append cs ds a b = record {
  ls = a.ls ++ b.ls;
  is = λ ys. ap lines (append_assoc cs ds ys) ∙ a.is (ds ++ ys) ∙ ap (λ (l : List (List ℕ)). a.ls ++ l) (b.is ys) ∙ sym (append_assoc a.ls b.ls (lines ys));
  wide = ap (start_of (a.ls ++ b.ls)) (length-append a.ls b.ls) ∙ start_append a.ls b.ls (length b.ls) ∙ ap₂ (λ (x y : ℕ). x + y) a.wide b.wide ∙ sym (width-append Utf8 cs ds);
}

feed_after : (x : ℕ) (xs ys : List ℕ) → ends_line x ((xs ++ (10 ∷ [])) ++ ys) ≡ ends_line x (xs ++ (10 ∷ []))
feed_after x [] ys = refl
feed_after x (c ∷ xs) ys = refl

ended_feed : (xs : List ℕ) → Ended (xs ++ (10 ∷ []))
ended_feed [] = record { ls = (10 ∷ []) ∷ []; is = λ ys. refl; wide = refl }
ended_feed (x ∷ xs) = by (ended_feed xs) (cases_Bool (ends_line x (xs ++ (10 ∷ []))))
  where
    onto : (e : Ended (xs ++ (10 ∷ []))) (ls : List (List ℕ)) → e.ls ≡ ls → ends_line x (xs ++ (10 ∷ [])) ≡ false → Ended (x ∷ (xs ++ (10 ∷ [])))
    onto e [] same none =
        let long : width Utf8 (xs ++ (10 ∷ [])) ≡ width Utf8 xs + 1 = width-append Utf8 xs (10 ∷ []) in
        let wide : start_of [] 0 ≡ width Utf8 (xs ++ (10 ∷ [])) = ap (λ (l : List (List ℕ)). start_of l (length l)) (sym same) ∙ e.wide in
        absurd (omega (arith, long, wide))
    onto e (l ∷ ls) same none =
        let wide : start_of (l ∷ ls) (length (l ∷ ls)) ≡ width Utf8 (xs ++ (10 ∷ [])) = ap (λ (l : List (List ℕ)). start_of l (length l)) (sym same) ∙ e.wide in
        record {
          ls = (x ∷ l) ∷ ls;
          is = λ ys. rw (feed_after x xs ys, none) (ap (onto_first_line x) (e.is ys ∙ ap (λ (k : List (List ℕ)). k ++ lines ys) same));
          wide = omega (arith, wide);
        }

    by : Ended (xs ++ (10 ∷ [])) → (ends_line x (xs ++ (10 ∷ [])) ≡ true) ⊎ (ends_line x (xs ++ (10 ∷ [])) ≡ false) → Ended (x ∷ (xs ++ (10 ∷ [])))
    by e (inl ends) = record {
      ls = (x ∷ []) ∷ e.ls;
      is = λ ys. rw (feed_after x xs ys, ends) (ap (λ (l : List (List ℕ)). (x ∷ []) ∷ l) (e.is ys));
      wide = omega (arith, e.wide);
    }
    by e (inr none) = onto e e.ls refl none

-- ---- texts after which a line begins

-- a text after which a line begins, with so many lines
pub record Whole (text : List ℕ) (count : ℕ) : Type 0 where
  pub valid : IsUtf8 text
  pub ended : Ended (chars text)
  pub many : length ended.ls ≡ count

pub whole_piece : (piece : List ℕ) → IsPiece piece → Whole piece (lines_ended piece)
whole_piece piece p =
    let e = ended_is (p.front ++ (10 ∷ [])) (chars piece) (sym p.ends) (ended_feed p.front) in
    let all : lines (chars piece) ≡ e.ls ++ ([] ∷ []) = ap lines (sym (append-nil (chars piece))) ∙ e.is [] in
    let many : length (lines (chars piece)) ≡ length e.ls + 1 = ap length all ∙ length-append e.ls ([] ∷ []) in
    record { valid = p.valid; ended = e; many = omega (arith, many) }

pub whole_pieces : (pieces : List (List ℕ)) → AllByRecursion IsPiece pieces → Whole (concat pieces) (sum_by lines_ended pieces)
whole_pieces [] all = record { valid = IsUtf8-nil; ended = ended_is [] (chars []) (sym (chars-encodes [] refl)) ended_nil; many = refl }
whole_pieces (piece ∷ pieces) all =
    let first = whole_piece piece all.0 in
    let more = whole_pieces pieces all.1 in
    let same : chars piece ++ chars (concat pieces) ≡ chars (piece ++ concat pieces) = sym (chars-append piece (concat pieces) first.valid) in
    record {
      valid = IsUtf8-append piece (concat pieces) first.valid more.valid;
      ended = ended_is (chars piece ++ chars (concat pieces)) (chars (piece ++ concat pieces)) same (ended_append (chars piece) (chars (concat pieces)) first.ended more.ended);
      many = length-append first.ended.ls more.ended.ls ∙ ap₂ (λ (a b : ℕ). a + b) first.many more.many ∙ sym (sum_by-cons lines_ended piece pieces);
    }

pub offset_past : (e : Encoding) (front back : List ℕ) (count n c : ℕ) → Whole front count → offset_of e (front ++ back) (position (count + n) c) ≡ length front + offset_of e back (position n c)
offset_past e front back count n c w =
    let all : lines (chars (front ++ back)) ≡ w.ended.ls ++ lines (chars back) = ap lines (chars-append front back w.valid) ∙ w.ended.is (chars back) in
    ap (λ (l : List (List ℕ)). offset_in e l (position (count + n) c)) all
    ∙ ap (λ (k : ℕ). offset_in e (w.ended.ls ++ lines (chars back)) (position (k + n) c)) (sym w.many)
    ∙ offset_behind e w.ended.ls (lines (chars back)) n c
    ∙ ap (λ (k : ℕ). k + offset_of e back (position n c)) (w.ended.wide ∙ width-chars front w.valid)

pub offset_within : (e : Encoding) (piece back : List ℕ) (n c : ℕ) → IsPiece piece → n < lines_ended piece → offset_of e (piece ++ back) (position n c) ≡ offset_of e piece (position n c)
offset_within e piece back n c p less =
    let w = whole_piece piece p in
    let all : lines (chars (piece ++ back)) ≡ w.ended.ls ++ lines (chars back) = ap lines (chars-append piece back w.valid) ∙ w.ended.is (chars back) in
    let one : lines (chars piece) ≡ w.ended.ls ++ lines [] = ap lines (sym (append-nil (chars piece))) ∙ w.ended.is [] in
    ap (λ (l : List (List ℕ)). offset_in e l (position n c)) all
    ∙ offset_front e w.ended.ls (lines (chars back)) (lines []) n c (omega (arith, w.many, less))
    ∙ ap (λ (l : List (List ℕ)). offset_in e l (position n c)) (sym one)

pub offset_less : (e : Encoding) (piece : List ℕ) (n c : ℕ) → IsPiece piece → n < lines_ended piece → offset_of e piece (position n c) < length piece
offset_less e piece n c p less =
    let w = whole_piece piece p in
    let one : lines (chars piece) ≡ w.ended.ls ++ ([] ∷ []) = ap lines (sym (append-nil (chars piece))) ∙ w.ended.is [] in
    let short = offset_short e w.ended.ls [] n c (lined (w.ended.ls ++ ([] ∷ [])) (chars piece) one) (omega (arith, w.many, less)) in
    let same : offset_of e piece (position n c) ≡ offset_in e (w.ended.ls ++ ([] ∷ [])) (position n c) = ap (λ (l : List (List ℕ)). offset_in e l (position n c)) one in
    let long : start_of (w.ended.ls ++ ([] ∷ [])) (length w.ended.ls) ≡ start_of (w.ended.ls ++ []) (length w.ended.ls) = start_front w.ended.ls ([] ∷ []) [] (length w.ended.ls) (omega arith) in
    let there : start_of (w.ended.ls ++ []) (length w.ended.ls) ≡ length piece =
    ap (λ (l : List (List ℕ)). start_of l (length w.ended.ls)) (append-nil w.ended.ls) ∙ w.ended.wide ∙ width-chars piece w.valid in
    omega (arith, short, same, long, there)

-- ---- a change of a part

fitting_past : (n : ℕ) (front rest : List ℕ) → fitting Utf8 (width Utf8 front + n) (front ++ rest) ≡ front ++ fitting Utf8 n rest
fitting_past n [] rest = ap (λ k. fitting Utf8 k rest) (zero-add n)
fitting_past n (c ∷ front) rest =
    let less : width Utf8 (c ∷ front) + n - units Utf8 c ≡ width Utf8 front + n = omega arith in
    fitting_some Utf8 (width Utf8 (c ∷ front) + n) c (front ++ rest) (omega arith)
    ∙ ap (λ (l : List ℕ). c ∷ l) (ap (λ k. fitting Utf8 k (front ++ rest)) less ∙ fitting_past n front rest)

fitting_within : (n : ℕ) (front rest : List ℕ) → n ≤ width Utf8 front → fitting Utf8 n (front ++ rest) ≡ fitting Utf8 n front
fitting_within n [] rest l = let none : n ≡ 0 = omega arith in ap (λ k. fitting Utf8 k rest) none ∙ fitting_zero Utf8 rest
fitting_within n (c ∷ front) rest l = by (cases_lt n (units Utf8 c)) (λ k. fitting_within (n - units Utf8 c) front rest k)
  where
    by : (n < units Utf8 c) ⊎ (units Utf8 c ≤ n) → (n - units Utf8 c ≤ width Utf8 front → fitting Utf8 (n - units Utf8 c) (front ++ rest) ≡ fitting Utf8 (n - units Utf8 c) front)
        → fitting Utf8 n (c ∷ (front ++ rest)) ≡ fitting Utf8 n (c ∷ front)
    by (inl less) ih = fitting_none Utf8 n c (front ++ rest) less ∙ sym (fitting_none Utf8 n c front less)
    by (inr more) ih = fitting_some Utf8 n c (front ++ rest) more ∙ ap (λ (l : List ℕ). c ∷ l) (ih (omega arith)) ∙ sym (fitting_some Utf8 n c front more)

length_fitting : (n : ℕ) (cs : List ℕ) → length (fitting Utf8 n cs) ≤ length cs
length_fitting n cs = let f = fits Utf8 n cs in omega (arith, ap length f.whole, length-append (fitting Utf8 n cs) f.rest)

drop_front : (n : ℕ) (xs ys : List ℕ) → n ≤ length xs → drop n (xs ++ ys) ≡ drop n xs ++ ys
drop_front zero xs ys l = refl
drop_front (suc n) [] ys l = absurd (omega arith)
drop_front (suc n) (x ∷ xs) ys l = drop_front n xs ys (omega arith)

drop_past : (n : ℕ) (xs ys : List ℕ) → drop (length xs + n) (xs ++ ys) ≡ drop n ys
drop_past n [] ys = ap (λ k. drop k ys) (zero-add n)
drop_past n (x ∷ xs) ys = let here : length (x ∷ xs) + n ≡ suc (length xs + n) = omega arith in ap (λ k. drop k (x ∷ (xs ++ ys))) here ∙ drop_past n xs ys

from_past : (n : ℕ) (front rest : List ℕ) → from (width Utf8 front + n) (front ++ rest) ≡ from n rest
from_past n front rest =
    ap (λ (l : List ℕ). drop (length l) (front ++ rest)) (fitting_past n front rest)
    ∙ ap (λ k. drop k (front ++ rest)) (length-append front (fitting Utf8 n rest))
    ∙ drop_past (length (fitting Utf8 n rest)) front rest

from_within : (n : ℕ) (front rest : List ℕ) → n ≤ width Utf8 front → from n (front ++ rest) ≡ from n front ++ rest
from_within n front rest l =
    ap (λ (k : List ℕ). drop (length k) (front ++ rest)) (fitting_within n front rest l) ∙ drop_front (length (fitting Utf8 n front)) front rest (length_fitting n front)

-- of what comes after a front
pub replaced_past : (front rest new : List ℕ) (start end : ℕ) → replaced (front ++ rest) (width Utf8 front + start) (width Utf8 front + end) new ≡ front ++ replaced rest start end new
replaced_past front rest new start end =
    let later : max (width Utf8 front + start) (width Utf8 front + end) ≡ width Utf8 front + max start end = omega arith in
    ap₂ (λ (x y : List ℕ). x ++ (new ++ y)) (fitting_past start front rest) (ap (λ k. from k (front ++ rest)) later ∙ from_past (max start end) front rest)
    ∙ append_assoc front (before start rest) (new ++ from (max start end) rest)

-- of what comes before a rest
pub replaced_within : (front rest new : List ℕ) (start end : ℕ) → start ≤ width Utf8 front → end ≤ width Utf8 front → replaced (front ++ rest) start end new ≡ replaced front start end new ++ rest
replaced_within front rest new start end a b =
    let most : max start end ≤ width Utf8 front = omega arith in
    ap₂ (λ (x y : List ℕ). x ++ (new ++ y)) (fitting_within start front rest a) (from_within (max start end) front rest most)
    ∙ ap (λ (l : List ℕ). before start front ++ l) (sym (append_assoc new (from (max start end) front) rest))
    ∙ sym (append_assoc (before start front) (new ++ from (max start end) front) rest)

-- ---- cutting

-- after a line feed a piece ends
pub piece_end : (text : List ℕ) (i : ℕ) → IsUtf8 text → (i < length text) × (get_or text i 0 ≡ 10) → IsPieceEnd text (i + 1)
piece_end text i u at =
    let low : get_or text i 0 < 128 = omega (arith, at.1) in
    let here = IsCharBoundary-before_ascii text i at.0 low in
    let after = IsCharBoundary-after_ascii text i u at.0 low in
    let rest : List ℕ = chars (drop (i + 1) text) in
    let feed : chars (drop i text) ≡ 10 ∷ rest = ascii_char text i u here at.0 low ∙ ap (λ x. x ∷ rest) at.1 in
    let same : chars (take (i + 1) text) ++ rest ≡ (chars (take i text) ++ (10 ∷ [])) ++ rest =
    sym (chars_split text (i + 1) u after) ∙ chars_split text i u here ∙ ap (λ (l : List ℕ). chars (take i text) ++ l) feed ∙ sym (append_assoc (chars (take i text)) (10 ∷ []) rest) in
    record {
      some = omega arith;
      boundary = after;
      piece = record { valid = IsUtf8-take text (i + 1) u after; front = chars (take i text); ends = append_cancel_right (chars (take (i + 1) text)) (chars (take i text) ++ (10 ∷ [])) rest same };
    }

pub rest_of : {A : Type 0} → (all items : List A) (i : ℕ) → all ≡ items → take (length all - i) (drop i all) ≡ drop i items
rest_of all items i same = take_all (length all - i) (drop i all) (omega (arith, length-drop i all)) ∙ ap (drop i) same

-- what a search from an offset on finds
pub first_feed : (text bytes : List ℕ) (from i : ℕ) → bytes ≡ text → IsFirstByte (is_byte 10) (take (length bytes - from) (drop from bytes)) (Some i) → (from + i < length text) × (get_or text (from + i) 0 ≡ 10)
first_feed text bytes from i same f =
    let rest : take (length bytes - from) (drop from bytes) ≡ drop from text = rest_of bytes text from same in
    let here : IsFirstByte (is_byte 10) (drop from text) (Some i) = subst (λ (l : List ℕ). IsFirstByte (is_byte 10) l (Some i)) rest f in
    let feed : get_or (drop from text) i 0 ≡ 10 = eqb-true (get_or (drop from text) i 0) 10 here.1 in
    (omega (arith, here.0.high, length-drop from text), sym (get_or-drop from text i 0) ∙ feed)

-- ---- in a loop over pieces

pub take_next : {A : Type 0} → (i : ℕ) (xs : List A) (d : A) → i < length xs → take (i + 1) xs ≡ take i xs ++ (get_or xs i d ∷ [])
take_next i xs d l = rw (add-one i) (take-suc xs i d l)

pub concat_next : (i : ℕ) (pieces : List (List ℕ)) → i < length pieces → concat (take (i + 1) pieces) ≡ concat (take i pieces) ++ get_or pieces i []
concat_next i pieces l =
    ap concat (take_next i pieces [] l) ∙ concat-append (take i pieces) (get_or pieces i [] ∷ []) ∙ ap (λ (k : List ℕ). concat (take i pieces) ++ k) (append-nil (get_or pieces i []))

pub sum_next : (f : List ℕ → ℕ) (i : ℕ) (pieces : List (List ℕ)) → i < length pieces → sum_by f (take (i + 1) pieces) ≡ sum_by f (take i pieces) + f (get_or pieces i [])
sum_next f i pieces l = ap (sum_by f) (take_next i pieces [] l) ∙ sum_by_push f (take i pieces) (get_or pieces i [])

-- ---- pieces of a text

pub cut_next : (old items : List (List ℕ)) (piece rest back whole : List ℕ) (end : ℕ) → items ≡ old ++ (piece ∷ []) → piece ≡ take end rest → back ≡ drop end rest
    → concat old ++ rest ≡ whole → concat items ++ back ≡ whole
cut_next old items piece rest back whole end is front after same =
    ap₂ (λ (l : List (List ℕ)) (b : List ℕ). concat l ++ b) is after
    ∙ ap (λ (l : List ℕ). l ++ drop end rest) (concat-append old (piece ∷ []) ∙ ap (λ (l : List ℕ). concat old ++ l) (append-nil piece ∙ front))
    ∙ append_assoc (concat old) (take end rest) (drop end rest) ∙ ap (λ (l : List ℕ). concat old ++ l) (take-append-drop end rest) ∙ same

pub set_piece : (pieces : List (List ℕ)) (i : ℕ) (piece : List ℕ) → i < length pieces → concat (set pieces i piece) ≡ concat (take i pieces) ++ (piece ++ concat (drop (suc i) pieces))
set_piece [] i piece l = absurd (omega arith)
set_piece (p ∷ pieces) zero piece l = refl
set_piece (p ∷ pieces) (suc i) piece l =
    ap (λ (k : List ℕ). p ++ k) (set_piece pieces i piece (omega arith)) ∙ sym (append_assoc p (concat (take i pieces)) (piece ++ concat (drop (suc i) pieces)))

pub around_piece : (pieces : List (List ℕ)) (i : ℕ) → i < length pieces → concat pieces ≡ concat (take i pieces) ++ (get_or pieces i [] ++ concat (drop (suc i) pieces))
around_piece pieces i l = ap concat (sym (set-get_or pieces i [])) ∙ set_piece pieces i (get_or pieces i []) l

pub cut_pieces : (pieces : List (List ℕ)) (i : ℕ) (last : List ℕ) → concat (take i pieces) ++ (concat (drop i pieces) ++ last) ≡ concat pieces ++ last
cut_pieces pieces i last =
    sym (append_assoc (concat (take i pieces)) (concat (drop i pieces)) last)
    ∙ ap (λ (l : List ℕ). l ++ last) (sym (concat-append (take i pieces) (drop i pieces)) ∙ ap concat (take-append-drop i pieces))

pub whole_front : (pieces : List (List ℕ)) (i passed : ℕ) → All IsPiece pieces → passed ≡ sum_by lines_ended (take i pieces) → Whole (concat (take i pieces)) passed
whole_front pieces i passed all many =
    subst (Whole (concat (take i pieces))) (sym many) (whole_pieces (take i pieces) (recursion_from_All IsPiece (take i pieces) (All-take IsPiece i pieces all)))

-- ---- a change of a text whose front stays

abbrev pub Changed : Encoding → List ℕ → List ℕ → List ℕ → Position → Position → Type 0
Changed e old new text start end = chars new ≡ replaced (chars old) (offset_of e old start) (offset_of e old end) (chars text)

pub changed_rest : (e : Encoding) (front rest new text : List ℕ) (count m c n d : ℕ) → Whole front count → count ≤ m → count ≤ n
    → Changed e rest new text (position (m - count) c) (position (n - count) d) → Changed e (front ++ rest) (front ++ new) text (position m c) (position n d)
changed_rest e front rest new text count m c n d w low less h =
    let past : (line column : ℕ) → count ≤ line → width Utf8 (chars front) + offset_of e rest (position (line - count) column) ≡ offset_of e (front ++ rest) (position line column) =
    λ line column l.
    let same : count + (line - count) ≡ line = omega arith in
    ap (λ k. k + offset_of e rest (position (line - count) column)) (width-chars front w.valid)
    ∙ sym (offset_past e front rest count (line - count) column w) ∙ ap (λ k. offset_of e (front ++ rest) (position k column)) same in
    chars-append front new w.valid ∙ ap (λ (l : List ℕ). chars front ++ l) h
    ∙ sym (replaced_past (chars front) (chars rest) (chars text) (offset_of e rest (position (m - count) c)) (offset_of e rest (position (n - count) d)))
    ∙ ap₂ (λ (a b : ℕ). replaced (chars front ++ chars rest) a b (chars text)) (past m c low) (past n d less)
    ∙ ap (λ (l : List ℕ). replaced l (offset_of e (front ++ rest) (position m c)) (offset_of e (front ++ rest) (position n d)) (chars text)) (sym (chars-append front rest w.valid))

pub changed_front : (e : Encoding) (piece back new text : List ℕ) (m c n d : ℕ) → IsPiece piece → IsUtf8 new → m < lines_ended piece → n < lines_ended piece
    → Changed e piece new text (position m c) (position n d) → Changed e (piece ++ back) (new ++ back) text (position m c) (position n d)
changed_front e piece back new text m c n d p valid low less h =
    let long = width-chars piece p.valid in
    chars-append new back valid ∙ ap (λ (l : List ℕ). l ++ chars back) h
    ∙ sym (replaced_within (chars piece) (chars back) (chars text) (offset_of e piece (position m c)) (offset_of e piece (position n d)) (omega (arith, long, offset_less e piece m c p low)) (omega (arith, long, offset_less e piece n d p less)))
    ∙ ap₂ (λ (a b : ℕ). replaced (chars piece ++ chars back) a b (chars text)) (sym (offset_within e piece back m c p low)) (sym (offset_within e piece back n d p less))
    ∙ ap (λ (l : List ℕ). replaced l (offset_of e (piece ++ back) (position m c)) (offset_of e (piece ++ back) (position n d)) (chars text)) (sym (chars-append piece back p.valid))

-- a changed piece ends with a line feed, as before
pub changed_piece : (e : Encoding) (piece new text : List ℕ) (m c n d : ℕ) → IsPiece piece → IsUtf8 new → m < lines_ended piece → n < lines_ended piece
    → Changed e piece new text (position m c) (position n d) → IsPiece new
changed_piece e piece new text m c n d p valid low less h =
    let start = offset_of e piece (position m c) in
    let end = offset_of e piece (position n d) in
    let long : width Utf8 p.front + 1 ≡ length piece = sym (width-append Utf8 p.front (10 ∷ [])) ∙ ap (width Utf8) (sym p.ends) ∙ width-chars piece p.valid in
    record {
      valid = valid;
      front = replaced p.front start end (chars text);
      ends = h ∙ ap (λ (l : List ℕ). replaced l start end (chars text)) p.ends
          ∙ replaced_within p.front (10 ∷ []) (chars text) start end (omega (arith, long, offset_less e piece m c p low)) (omega (arith, long, offset_less e piece n d p less));
    }

pub kept_piece : {T E : Type 0} (r : Result T E) (piece old new : List ℕ) → old ≡ piece → IsPiece piece → OnOk r (IsPiece new) → OnErr r (new ≡ old) → IsPiece new
kept_piece (Ok x) piece old new same p h k = h
kept_piece (Err x) piece old new same p h k = subst IsPiece (sym (k ∙ same)) p

-- the same of equal texts and places
pub changed_is : (e : Encoding) (old piece new text : List ℕ) (s s' t t' : Position) → old ≡ piece → s ≡ s' → t ≡ t' → Changed e old new text s t → Changed e piece new text s' t'
changed_is e old piece new text s s' t t' x y z h =
    h ∙ ap (λ (l : List ℕ). replaced (chars l) (offset_of e l s) (offset_of e l t) (chars text)) x
    ∙ ap₂ (λ (a b : Position). replaced (chars piece) (offset_of e piece a) (offset_of e piece b) (chars text)) y z

pub spread : (front piece back last : List ℕ) → (front ++ (piece ++ back)) ++ last ≡ front ++ (piece ++ (back ++ last))
spread front piece back last = append_assoc front (piece ++ back) last ∙ ap (λ (l : List ℕ). front ++ l) (append_assoc piece back last)
