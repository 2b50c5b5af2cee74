-- Where the first `#` of a text stands.
use Rattle.std.proofs.Common.{◌≡◌, ◌≢◌, ℕ, ◌+◌, ◌<◌, Bool, true, false, ◌==◌, Some, None, List, [], ◌∷◌, ◌++◌, length, take, drop, get_or, refl, sym, ap, ◌∙◌, subst, arith, length-take, length-append, ◌-◌, ◌≤◌}
use Rattle.std.proofs.lemmas.Bool.Decides.{nat_tests}
use Rattle.std.proofs.lemmas.List.{drop_more, get_or-take, get_or-append-add, take-append-drop}
use Rattle.std.proofs.lemmas.Str.{IsUtf8-take, IsCharBoundary-before_ascii, IsCharBoundary-after_ascii}
use Rattle.std.specs.Char.{encode_utf8}
use Rattle.std.specs.Str.{IsUtf8, IsCharBoundary, NonePass, NoCharPasses, encode_utf8_all}
use Rattle.std.specs.Str.Pattern.{FindsChar}
use Rattle.memchr.specs.Find.{IsFirstByte, is_byte}
use Rattle.graphql_layout.specs.inner.Standing.{IsClear}

abbrev Lacks : List ℕ → Type 0
Lacks bs = (i : ℕ) → i < length bs → get_or bs i 0 ≢ 35

none_is : (cs : List ℕ) → Lacks (encode_utf8_all cs) → NonePass (λ d. d == 35) cs
unfolding encode_utf8
none_is [] h = tt
none_is (c ∷ cs) h = (by (c == 35) refl, none_is cs more)
  where
    rest : List ℕ
    rest = encode_utf8_all cs

    by : (b : Bool) → (c == 35) ≡ b → (c == 35) ≡ false
    by false e = e
    by true e = let is : c ≡ 35 = grind (arith, nat_tests, e) in absurd (subst (λ (x : ℕ). Lacks (encode_utf8 x ++ rest)) is h 0 (omega arith) refl)

    more : Lacks rest
    more i l e = h (length (encode_utf8 c) + i) (omega (arith, length-append (encode_utf8 c) rest, l)) (get_or-append-add (encode_utf8 c) rest i 0 ∙ e)

none_passes : (bs : List ℕ) → IsUtf8 bs → Lacks bs → NoCharPasses (λ d. d == 35) bs
none_passes bs u h = (u.0, u.1.1, none_is u.0 (subst Lacks (sym u.1.1) h))

is_hash : (c : ℕ) → is_byte 35 c ≡ true → c ≡ 35
is_hash c e = grind (arith, nat_tests, e)

passes : (c : ℕ) → c ≡ 35 → is_byte 35 c ≡ true
passes c e = ap (is_byte 35) e

pub no_hash_found : (text bytes : List ℕ) → IsUtf8 text → bytes ≡ text → IsFirstByte (is_byte 35) bytes None → FindsChar 35 text None
no_hash_found text bytes u same f =
    let g = subst (λ (l : List ℕ). IsFirstByte (is_byte 35) l None) same f in
    none_passes text u (λ i l e. g i (omega arith) l (passes (get_or text i 0) e))

-- the `#` that a search for its byte finds
pub record FoundHash (text : List ℕ) (i : ℕ) : Type 0 where
  pub found : FindsChar 35 text (Some (i, i + 1))
  pub boundary : IsCharBoundary text i

pub hash_found : (text bytes : List ℕ) (i : ℕ) → IsUtf8 text → bytes ≡ text → IsFirstByte (is_byte 35) bytes (Some i) → FoundHash text i
unfolding encode_utf8
hash_found text bytes i u same f =
    let g = subst (λ (l : List ℕ). IsFirstByte (is_byte 35) l (Some i)) same f in
    let is : get_or text i 0 ≡ 35 = is_hash (get_or text i 0) g.1 in
    let low : get_or text i 0 < 128 = omega (arith, is) in
    let boundary = IsCharBoundary-before_ascii text i g.0.high low in
    record {
      found = (
        none_passes (take i text) (IsUtf8-take text i u boundary) (λ k l e. g.0.before k (omega arith) (omega (arith, l, length-take i text)) (passes (get_or text k 0) (sym (get_or-take i text k 0 (omega (arith, l, length-take i text))) ∙ e))),
        record {
          split = drop_more text i 0 g.0.high ∙ ap (λ (c : ℕ). c ∷ drop (i + 1) text) is;
          ends = refl;
          after = IsCharBoundary-after_ascii text i u g.0.high low;
          byte = λ l. is;
        },
      );
      boundary = boundary;
    }

-- ---- what stands before it

pub clear_rest : (near : ℕ) (text front rest : List ℕ) → text ≡ front ++ rest → IsClear near text → IsClear near rest
clear_rest near text front rest e h = λ i l m.
    let long : length text ≡ length front + length rest = ap length e ∙ length-append front rest in
    let is : get_or text (length front + i) 0 ≡ get_or rest i 0 = ap (λ (x : List ℕ). get_or x (length front + i) 0) e ∙ get_or-append-add front rest i 0 in
    λ p. h (length front + i) (omega (arith, long, l)) (omega (arith, long, l, m)) (ap (is_byte 35) is ∙ p)

pub clear_after : (near n : ℕ) (text after : List ℕ) → IsClear near text → after ≡ drop n text → IsClear near after
clear_after near n text after h e = clear_rest near text (take n text) after (sym (take-append-drop n text) ∙ ap (λ (x : List ℕ). take n text ++ x) (sym e)) h

pub clear_gap : (near left : ℕ) (text gap : List ℕ) → IsClear near text → near ≤ left → left ≤ length text → gap ≡ take (length text - left) text → IsUtf8 gap → FindsChar 35 gap None
clear_gap near left text gap h far w e u =
    none_passes gap u (λ i l is.
    let n = length text - left in
    let inside : i < n = omega (arith, l, ap length e, length-take n text) in
    let same : get_or gap i 0 ≡ get_or text i 0 = ap (λ (x : List ℕ). get_or x i 0) e ∙ get_or-take n text i 0 inside in
    h i (omega (arith, inside)) (omega (arith, inside, far, w)) (passes (get_or text i 0) (sym same ∙ is)))
