-- A text up to its next line feed, quote or backslash, and what is written of it.
use Rattle.std.proofs.Common.{◌≡◌, ◌≢◌, ℕ, zero, suc, ◌<◌, ◌≤◌, Bool, true, false, cond, not, eqb, ◌&&◌, ◌||◌, Some, None, List, [], ◌∷◌, ◌++◌, length, take, drop, get_or, refl, sym, ap, ap₂, ◌∙◌, subst, arith, append_assoc, append-nil, length-drop, one-add}
use Rattle.std.proofs.lemmas.Bool.Decides.{nat_tests}
use Rattle.std.proofs.lemmas.List.{append_cancel_right, take-append-drop, take_all, get_or-drop}
use Rattle.std.proofs.lemmas.List.Sums.{prefix_len_is}
use Rattle.std.proofs.lemmas.Str.{encode_ascii, encodes-append, encodes-chars, chars-nil, chars_past_char, IsUtf8-past_char, IsUtf8-take, IsUtf8-drop, IsCharBoundary-before_ascii, IsCharBoundary-end, IsCharBoundary-from_drop}
use Rattle.std.specs.Char.{encode_utf8}
use Rattle.std.specs.List.{AllByRecursion, prefix_len, starts_with}
use Rattle.std.specs.Str.{chars, encode_utf8_all, IsUtf8, IsCharBoundary}
use Rattle.memchr.specs.Find.{IsFirstByte, is_byte3}
use Rattle.graphql_tokens.specs.tokens.Blocks.{closes}
use Rattle.graphql_tokens.proofs.BlockValue.{quotes_at}
use Rattle.graphql_tokens.proofs.Chars.{chars_split}
use Rattle.graphql_tokens.proofs.EscapeUnits.{both}
use Rattle.graphql_tokens.proofs.Scan.{IsAlike, span_chars}
use Rattle.graphql_layout.specs.declared.line_ends.LineBreak.{LineBreak}
use Rattle.graphql_layout.specs.texts.Blocks.{line_break, body, placed}
use Rattle.graphql_layout.specs.inner.Marks.{is_special, BeginsWithMark, IsMarked}
use Rattle.graphql_layout.specs.texts.Shortened.{is_mark, is_open}
use Rattle.graphql_layout.proofs.BlockBodies.{closes_is}
use Rattle.graphql_layout.proofs.BlockPushes.{same_byte, break_bytes}

-- ---- a mark at the front

-- a text that begins with an ASCII character
pub record Begun (c : ℕ) (text rest : List ℕ) : Type 0 where
  pub is : chars text ≡ c ∷ chars rest
  pub utf8 : IsUtf8 rest

pub begun : (c : ℕ) (text rest : List ℕ) → c < 128 → IsUtf8 text → text ≡ c ∷ rest → Begun c text rest
begun c text rest l u e =
    let whole : text ≡ encode_utf8 c ++ rest = e ∙ ap (λ (x : List ℕ). x ++ rest) (sym (encode_ascii c l)) in
    record { is = chars_past_char text rest c u whole; utf8 = IsUtf8-past_char text rest c u whole }

pub special_low : (c : ℕ) → is_special c ≡ true → c < 128
special_low c h = grind (arith, nat_tests)

pub mark_begun : (text mark rest : List ℕ) → IsUtf8 text → BeginsWithMark text → mark ≡ take 1 text → rest ≡ drop 1 text → (text ≡ get_or mark 0 0 ∷ rest) × (is_special (get_or mark 0 0) ≡ true) × (mark ≡ get_or mark 0 0 ∷ [])
mark_begun [] mark rest u b e f = absurd (let s = b.some in omega arith)
mark_begun (c ∷ cs) mark rest u b e f =
    let same : mark ≡ c ∷ [] = e in
    let first : get_or mark 0 0 ≡ c = ap (λ (m : List ℕ). get_or m 0 0) same in
    (ap (λ (x : ℕ). x ∷ cs) (sym first) ∙ ap (λ (l : List ℕ). get_or mark 0 0 ∷ l) (sym f), ap is_special first ∙ b.special, same ∙ ap (λ (x : ℕ). x ∷ []) (sym first))

-- ---- three quotes

quotes_bytes : (k : ℕ) (cs : List ℕ) → quotes_at k cs ≡ true → quotes_at k (encode_utf8_all cs) ≡ true
quotes_bytes zero cs h = refl
quotes_bytes (suc k) [] h = h
quotes_bytes (suc k) (c ∷ cs) h =
    let e = both (eqb c 34) (quotes_at k cs) h in
    let low : c < 128 = grind (arith, nat_tests) in
    ap (quotes_at (suc k)) (same_byte c cs low) ∙ ap (λ b. b && quotes_at k (encode_utf8_all cs)) e.0 ∙ quotes_bytes k cs e.1

same_test : (a b : ℕ) → eqb a b ≡ eqb b a
same_test a b = by (eqb a b) refl (eqb b a) refl
  where
    by : (x : Bool) → eqb a b ≡ x → (y : Bool) → eqb b a ≡ y → eqb a b ≡ eqb b a
    by true e true f = e ∙ sym f
    by false e false f = e ∙ sym f
    by true e false f = absurd (grind (arith, nat_tests))
    by false e true f = absurd (grind (arith, nat_tests))

front_is : (text : List ℕ) → starts_with eqb text (34 ∷ 34 ∷ 34 ∷ []) ≡ quotes_at 3 text
front_is [] = refl
front_is (a ∷ []) = ap (λ x. x && false) (same_test 34 a)
front_is (a ∷ b ∷ []) = ap₂ (λ x y. x && (y && false)) (same_test 34 a) (same_test 34 b)
front_is (a ∷ b ∷ c ∷ text) = ap₂ (λ x y. x && (y && (eqb 34 c && true))) (same_test 34 a) (same_test 34 b) ∙ ap (λ z. eqb a 34 && (eqb b 34 && (z && true))) (same_test 34 c)

pub triple_front : (text : List ℕ) → starts_with eqb text (34 ∷ 34 ∷ 34 ∷ []) ≡ true → text ≡ 34 ∷ 34 ∷ 34 ∷ drop 3 text
triple_front text h = by text (sym (front_is text) ∙ h)
  where
    by : (text : List ℕ) → quotes_at 3 text ≡ true → text ≡ 34 ∷ 34 ∷ 34 ∷ drop 3 text
    by [] e = absurd (cc)
    by (a ∷ []) e = let p = both (eqb a 34) false e in absurd (let q = p.1 in cc)
    by (a ∷ b ∷ []) e = let p = both (eqb a 34) (eqb b 34 && false) e in let q = both (eqb b 34) false p.1 in absurd (let r = q.1 in cc)
    by (a ∷ b ∷ c ∷ text) e =
        let p = both (eqb a 34) (eqb b 34 && (eqb c 34 && true)) e in
        let q = both (eqb b 34) (eqb c 34 && true) p.1 in
        let r = both (eqb c 34) true q.1 in
        let x : a ≡ 34 = grind (arith, nat_tests) in
        let y : b ≡ 34 = grind (arith, nat_tests) in
        let z : c ≡ 34 = grind (arith, nat_tests) in
        ap (λ k. k ∷ b ∷ c ∷ text) x ∙ ap (λ k. 34 ∷ k ∷ c ∷ text) y ∙ ap (λ k. 34 ∷ 34 ∷ k ∷ text) z

no_triple : (text : List ℕ) → IsUtf8 text → starts_with eqb text (34 ∷ 34 ∷ 34 ∷ []) ≡ false → closes (chars text) ≡ false
no_triple text u h = by (closes (chars text)) refl
  where
    by : (b : Bool) → closes (chars text) ≡ b → closes (chars text) ≡ false
    by false e = e
    by true e =
        let there : quotes_at 3 text ≡ true = ap (quotes_at 3) (sym (encodes-chars text u)) ∙ quotes_bytes 3 (chars text) (sym (closes_is (chars text)) ∙ e) in
        let none : quotes_at 3 text ≡ false = sym (front_is text) ∙ h in
        absurd (cc)

-- ---- what is written of the mark

fewer : (c : ℕ) (text rest : List ℕ) → text ≡ c ∷ rest → length rest < length text
fewer c text rest e = omega (arith, ap length e)

appended : (old part new all rest : List ℕ) → new ≡ old ++ part → all ≡ part ++ rest → new ++ rest ≡ old ++ all
appended old part new all rest e f = ap (λ (x : List ℕ). x ++ rest) e ∙ append_assoc old part rest ∙ ap (λ (x : List ℕ). old ++ x) (sym f)

pub triple_marked : (i : LineBreak) (text rest old new : List ℕ) → IsUtf8 text → text ≡ 34 ∷ 34 ∷ 34 ∷ rest → new ≡ old ++ (92 ∷ 34 ∷ 34 ∷ 34 ∷ []) → IsMarked i text rest false old new
triple_marked i text rest old new u e n =
    let one = begun 34 text (34 ∷ 34 ∷ rest) (omega arith) u e in
    let two = begun 34 (34 ∷ 34 ∷ rest) (34 ∷ rest) (omega arith) one.utf8 refl in
    let three = begun 34 (34 ∷ rest) rest (omega arith) two.utf8 refl in
    let cs = chars rest in
    let is : chars text ≡ 34 ∷ 34 ∷ 34 ∷ cs = one.is ∙ ap (λ (x : List ℕ). 34 ∷ x) (two.is ∙ ap (λ (x : List ℕ). 34 ∷ x) three.is) in
    let bytes : encode_utf8_all (92 ∷ 34 ∷ 34 ∷ 34 ∷ body i 0 cs) ≡ 92 ∷ 34 ∷ 34 ∷ 34 ∷ encode_utf8_all (body i 0 cs) =
    same_byte 92 (34 ∷ 34 ∷ 34 ∷ body i 0 cs) (omega arith) ∙ ap (λ (x : List ℕ). 92 ∷ x) (same_byte 34 (34 ∷ 34 ∷ body i 0 cs) (omega arith)
    ∙ ap (λ (x : List ℕ). 34 ∷ x) (same_byte 34 (34 ∷ body i 0 cs) (omega arith) ∙ ap (λ (x : List ℕ). 34 ∷ x) (same_byte 34 (body i 0 cs) (omega arith)))) in
    record {
      written = appended old (92 ∷ 34 ∷ 34 ∷ 34 ∷ []) new (encode_utf8_all (body i 0 (chars text))) (encode_utf8_all (body i 0 cs)) n (ap (λ (x : List ℕ). encode_utf8_all (body i 0 x)) is ∙ bytes);
      still = λ before. ap (is_open 0 before) is;
      shorter = omega (arith, ap length e);
      utf8 = three.utf8;
    }

pub feed_marked : (i : LineBreak) (c : ℕ) (text rest old new : List ℕ) → IsUtf8 text → text ≡ c ∷ rest → c ≡ 10 → new ≡ old ++ line_break i → IsMarked i text rest false old new
feed_marked i c text rest old new u e f n =
    let one = begun 10 text rest (omega arith) u (e ∙ ap (λ (x : ℕ). x ∷ rest) f) in
    let cs = chars rest in
    record {
      written = appended old (line_break i) new (encode_utf8_all (body i 0 (chars text))) (encode_utf8_all (body i 0 cs)) n
          (ap (λ (x : List ℕ). encode_utf8_all (body i 0 x)) one.is ∙ encodes-append (line_break i) (body i 0 cs) ∙ ap (λ (x : List ℕ). x ++ encode_utf8_all (body i 0 cs)) (break_bytes i));
      still = λ before. ap (is_open 0 before) one.is;
      shorter = fewer c text rest e;
      utf8 = one.utf8;
    }

mark_of : (c : ℕ) → is_special c ≡ true → c ≢ 10 → (is_mark c ≡ true) × (eqb c 10 ≡ false)
mark_of c h n = let f : eqb c 10 ≡ false = grind (arith, nat_tests) in (ap (λ b. b || is_mark c) (sym f) ∙ special_is ∙ h, f)
  where
    special_is : (eqb c 10 || is_mark c) ≡ is_special c
    special_is = three (eqb c 10) (eqb c 34) (eqb c 92)
      where
        three : (x y z : Bool) → (x || (y || z)) ≡ ((x || y) || z)
        three true y z = refl
        three false y z = refl

pub other_marked : (i : LineBreak) (c : ℕ) (text rest old new : List ℕ) → IsUtf8 text → text ≡ c ∷ rest → is_special c ≡ true → c ≢ 10 → starts_with eqb text (34 ∷ 34 ∷ 34 ∷ []) ≡ false → new ≡ old ++ (c ∷ []) → IsMarked i text rest true old new
other_marked i c text rest old new u e s m t n =
    let low = special_low c s in
    let one = begun c text rest low u e in
    let k = mark_of c s m in
    let cs = chars rest in
    let none : closes (c ∷ cs) ≡ false = ap closes (sym one.is) ∙ no_triple text u t in
    let here : body i 0 (c ∷ cs) ≡ c ∷ body i 0 cs =
    ap (λ b. cond b (92 ∷ c ∷ body i 2 cs) (placed i c ++ body i 0 cs)) none ∙ ap (λ b. cond b (line_break i) (c ∷ []) ++ body i 0 cs) k.1 in
    record {
      written = appended old (c ∷ []) new (encode_utf8_all (body i 0 (chars text))) (encode_utf8_all (body i 0 cs)) n
          (ap (λ (x : List ℕ). encode_utf8_all (body i 0 x)) one.is ∙ ap encode_utf8_all here ∙ same_byte c (body i 0 cs) low);
      still = λ before. ap (is_open 0 before) one.is ∙ ap (λ b. cond b (is_open 2 false cs) (is_open 0 (is_mark c) cs)) none ∙ ap (λ b. is_open 0 b cs) k.0;
      shorter = fewer c text rest e;
      utf8 = one.utf8;
    }

-- ---- up to the next mark

abbrev is_plain : ℕ → Bool
is_plain c = not (is_special c)

alike : IsAlike is_plain
alike c d h k = grind (arith, nat_tests)

abbrev ArePlain : List ℕ → Type 0
ArePlain cs = AllByRecursion (λ c. is_special c ≡ false) cs

passing : (cs : List ℕ) → ArePlain (take (prefix_len is_plain cs) cs)
passing [] = tt
passing (c ∷ cs) = by (is_special c) refl (passing cs)
  where
    by : (b : Bool) → is_special c ≡ b → ArePlain (take (prefix_len is_plain cs) cs) → ArePlain (take (prefix_len is_plain (c ∷ cs)) (c ∷ cs))
    by true e more = rw e tt
    by false e more = rw (e, one-add (prefix_len is_plain cs)) (e, more)

plain_until : (text : List ℕ) (n : ℕ) → IsUtf8 text → IsCharBoundary text n → prefix_len is_plain text ≡ n → ArePlain (chars (take n text))
plain_until text n u b passed =
    let cs = chars text in
    let m = prefix_len is_plain cs in
    let after : chars (drop n text) ≡ drop m cs = ap (λ (k : ℕ). chars (drop k text)) (sym passed) ∙ span_chars is_plain alike text u in
    let before : chars (take n text) ≡ take m cs =
    append_cancel_right (chars (take n text)) (take m cs) (drop m cs) (ap (λ (l : List ℕ). chars (take n text) ++ l) (sym after) ∙ sym (chars_split text n u b) ∙ sym (take-append-drop m cs)) in
    subst ArePlain (sym before) (passing cs)

no_special : (c : ℕ) → ¬ (is_special c ≡ true) → is_plain c ≡ true
no_special c n = by (is_special c) refl
  where
    by : (b : Bool) → is_special c ≡ b → not (is_special c) ≡ true
    by true e = absurd (n e)
    by false e = ap not e

-- what is plain stays as it is
plain_body : (i : LineBreak) (plain rest : List ℕ) → ArePlain plain → body i 0 (plain ++ rest) ≡ plain ++ body i 0 rest
plain_body i [] rest h = refl
plain_body i (c ∷ plain) rest h =
    let q : eqb c 34 ≡ false = grind (arith, nat_tests) in
    let f : eqb c 10 ≡ false = grind (arith, nat_tests) in
    ap (λ b. cond ((b && eqb (get_or (plain ++ rest) 0 0) 34) && eqb (get_or (plain ++ rest) 1 0) 34) (92 ∷ c ∷ body i 2 (plain ++ rest)) (placed i c ++ body i 0 (plain ++ rest))) q
    ∙ ap (λ b. cond b (line_break i) (c ∷ []) ++ body i 0 (plain ++ rest)) f ∙ ap (λ (x : List ℕ). c ∷ x) (plain_body i plain rest h.1)

plain_open : (before : Bool) (c : ℕ) (rest : List ℕ) → is_special c ≡ false → is_open 0 before (c ∷ rest) ≡ is_open 0 false rest
plain_open before c rest h =
    let q : eqb c 34 ≡ false = grind (arith, nat_tests) in
    let m : is_mark c ≡ false = grind (arith, nat_tests) in
    ap (λ b. cond ((b && eqb (get_or rest 0 0) 34) && eqb (get_or rest 1 0) 34) (is_open 2 false rest) (is_open 0 (is_mark c) rest)) q ∙ ap (λ b. is_open 0 b rest) m

open_until : (before other : Bool) (plain : List ℕ) (c : ℕ) (rest : List ℕ) → ArePlain plain → is_open 0 before (plain ++ (c ∷ rest)) ≡ is_open 0 other (c ∷ rest)
open_until before other [] c rest h = refl
open_until before other (d ∷ plain) c rest h = plain_open before d (plain ++ (c ∷ rest)) h.0 ∙ open_until false other plain c rest h.1

-- at the end
open_end : (before : Bool) (plain : List ℕ) → ArePlain plain → is_open 0 before plain ≡ (before && eqb (length plain) 0)
open_end true [] h = refl
open_end false [] h = refl
open_end before (c ∷ plain) h = plain_open before c plain h.0 ∙ open_end false plain h.1 ∙ sym (long before)
  where
    long : (b : Bool) → (b && eqb (length (c ∷ plain)) 0) ≡ false
    long true = let n : eqb (length (c ∷ plain)) 0 ≡ false = grind (arith, nat_tests) in n
    long false = refl

-- ---- a turn of the loop

pub found_boundary : (text bytes : List ℕ) (at : ℕ) → IsUtf8 text → bytes ≡ text → IsFirstByte (is_byte3 10 34 92) bytes (Some at) → IsCharBoundary text at
found_boundary text bytes at u same h = subst (λ (l : List ℕ). IsFirstByte (is_byte3 10 34 92) l (Some at) → IsCharBoundary text at) (sym same) (λ f. IsCharBoundary-before_ascii text at f.0.high (special_low (get_or text at 0) f.1)) h

-- The text is plain, and then begins with a mark.
pub record Cut (text plain marked : List ℕ) : Type 0 where
  pub plain_utf8 : IsUtf8 plain
  pub utf8 : IsUtf8 marked
  pub whole : chars text ≡ chars plain ++ chars marked
  pub are : ArePlain (chars plain)
  pub begins : BeginsWithMark marked
  pub shorter : length marked ≤ length text

pub cut_at : (text bytes plain marked : List ℕ) (at : ℕ) → IsUtf8 text → bytes ≡ text → IsFirstByte (is_byte3 10 34 92) bytes (Some at) → plain ≡ take at text → marked ≡ drop at text → Cut text plain marked
cut_at text bytes plain marked at u same h p m =
    let f : IsFirstByte (is_byte3 10 34 92) text (Some at) = subst (λ (l : List ℕ). IsFirstByte (is_byte3 10 34 92) l (Some at)) same h in
    let b = found_boundary text bytes at u same h in
    let passed : prefix_len is_plain text ≡ at =
    prefix_len_is is_plain text at 0 (omega (arith, f.0.high)) (λ k l. no_special (get_or text k 0) (f.0.before k (omega arith) l)) (λ l. ap not f.1) in
    let begins : BeginsWithMark (drop at text) = record { some = omega (arith, f.0.high, length-drop at text); special = ap is_special (get_or-drop at text 0 0 ∙ ap (λ (k : ℕ). get_or text k 0) (omega arith)) ∙ f.1 } in
    rw (p, m) record {
      plain_utf8 = IsUtf8-take text at u b;
      utf8 = IsUtf8-drop text at u b;
      whole = chars_split text at u b;
      are = plain_until text at u b passed;
      begins = begins;
      shorter = omega (arith, length-drop at text);
    }

pub rest_plain : (text bytes : List ℕ) → IsUtf8 text → bytes ≡ text → IsFirstByte (is_byte3 10 34 92) bytes None → ArePlain (chars text)
rest_plain text bytes u same h =
    let f : IsFirstByte (is_byte3 10 34 92) text None = subst (λ (l : List ℕ). IsFirstByte (is_byte3 10 34 92) l None) same h in
    let passed : prefix_len is_plain text ≡ length text =
    prefix_len_is is_plain text (length text) 0 (omega arith) (λ k l. no_special (get_or text k 0) (f k (omega arith) (omega arith))) (λ l. absurd (omega arith)) in
    subst (λ (l : List ℕ). ArePlain (chars l)) (take_all (length text) text (omega arith)) (plain_until text (length text) u (IsCharBoundary-end text) passed)

marked_chars : (marked : List ℕ) → IsUtf8 marked → BeginsWithMark marked → (c : ℕ) × (cs : List ℕ) × (chars marked ≡ c ∷ cs)
marked_chars [] u b = absurd (let s = b.some in omega arith)
marked_chars (c ∷ rest) u b = (c, chars rest, (begun c (c ∷ rest) rest (special_low c b.special) u refl).is)

-- what is written and left makes the whole
abbrev pub State : LineBreak → List ℕ → Bool → List ℕ → List ℕ → List ℕ → Type 0
State i rest opens out old value =
    (out ++ encode_utf8_all (body i 0 (chars rest)) ≡ old ++ encode_utf8_all (body i 0 (chars value)))
    × (is_open 0 opens (chars rest) ≡ is_open 0 false (chars value))

pub turned : (i : LineBreak) (rest plain marked after : List ℕ) (opens next : Bool) (old out mid new value : List ℕ) → Cut rest plain marked → State i rest opens out old value → mid ≡ out ++ plain → IsMarked i marked after next mid new
    → State i after next new old value
turned i rest plain marked after opens next old out mid new value c s e m =
    let front = marked_chars marked c.utf8 c.begins in
    let first : is_open 0 opens (chars rest) ≡ is_open 0 opens (chars marked) =
    ap (is_open 0 opens) c.whole ∙ ap (λ (x : List ℕ). is_open 0 opens (chars plain ++ x)) front.2 ∙ open_until opens opens (chars plain) front.0 front.1 c.are ∙ sym (ap (is_open 0 opens) front.2) in
    let bytes : encode_utf8_all (body i 0 (chars rest)) ≡ plain ++ encode_utf8_all (body i 0 (chars marked)) =
    ap encode_utf8_all (ap (body i 0) c.whole ∙ plain_body i (chars plain) (chars marked) c.are) ∙ encodes-append (chars plain) (body i 0 (chars marked))
    ∙ ap (λ (x : List ℕ). x ++ encode_utf8_all (body i 0 (chars marked))) (encodes-chars plain c.plain_utf8) in (
      m.written ∙ appended out plain mid (encode_utf8_all (body i 0 (chars rest))) (encode_utf8_all (body i 0 (chars marked))) e bytes ∙ s.0,
      sym (m.still opens) ∙ sym first ∙ s.1,
    )

-- ---- at its end

pub ended : (i : LineBreak) (rest : List ℕ) (opens : Bool) (old out new value : List ℕ) → IsUtf8 rest → ArePlain (chars rest) → State i rest opens out old value → new ≡ out ++ rest → new ≡ old ++ encode_utf8_all (body i 0 (chars value))
ended i rest opens old out new value u p s e =
    let here : body i 0 (chars rest) ≡ chars rest = ap (body i 0) (sym (append-nil (chars rest))) ∙ plain_body i (chars rest) [] p ∙ append-nil (chars rest) in
    e ∙ ap (λ (x : List ℕ). out ++ x) (sym (ap encode_utf8_all here ∙ encodes-chars rest u)) ∙ s.0

same_empty : (rest : List ℕ) → IsUtf8 rest → eqb (length (chars rest)) 0 ≡ eqb (length rest) 0
same_empty [] u = ap (λ (l : List ℕ). eqb (length l) 0) chars-nil
same_empty (c ∷ cs) u = by (chars (c ∷ cs)) refl
  where
    by : (l : List ℕ) → chars (c ∷ cs) ≡ l → eqb (length (chars (c ∷ cs))) 0 ≡ eqb (length (c ∷ cs)) 0
    by [] e = let none : [] ≡ c ∷ cs = ap encode_utf8_all (sym e) ∙ encodes-chars (c ∷ cs) u in absurd (cc)
    by (d ∷ ds) e =
        let x : eqb (length (d ∷ ds)) 0 ≡ false = grind (arith, nat_tests) in
        let y : eqb (length (c ∷ cs)) 0 ≡ false = grind (arith, nat_tests) in
        ap (λ (l : List ℕ). eqb (length l) 0) e ∙ x ∙ sym y

pub ends_open : (i : LineBreak) (rest : List ℕ) (opens result : Bool) (old out value : List ℕ) → IsUtf8 rest → ArePlain (chars rest) → State i rest opens out old value → result ≡ (opens && eqb (length rest) 0) → result ≡ is_open 0 false (chars value)
ends_open i rest opens result old out value u p s e = e ∙ ap (λ b. opens && b) (sym (same_empty rest u)) ∙ sym (open_end opens (chars rest) p) ∙ s.1

-- ---- cuts

pub triple_utf8 : (text : List ℕ) → IsUtf8 text → starts_with eqb text (34 ∷ 34 ∷ 34 ∷ []) ≡ true → IsCharBoundary text 3
triple_utf8 text u h =
    let e = triple_front text h in
    let one = begun 34 text (34 ∷ 34 ∷ drop 3 text) (omega arith) u e in
    let two = begun 34 (34 ∷ 34 ∷ drop 3 text) (34 ∷ drop 3 text) (omega arith) one.utf8 refl in
    let three = begun 34 (34 ∷ drop 3 text) (drop 3 text) (omega arith) two.utf8 refl in
    IsCharBoundary-from_drop text 3 (omega (arith, ap length e)) three.utf8
