-- The escapes that the function finds are the units of the relation, and no others.
use Rattle.std.proofs.Common.{◌≡◌, ℕ, suc, ◌+◌, ◌-◌, ◌*◌, ◌≤◌, ◌<◌, Bool, true, false, cond, eqb, leb, ◌&&◌, ◌⊎◌, min, List, [], ◌∷◌, ◌++◌, Option, Some, None, length, take, drop, get_or, refl, sym, ap, ◌∙◌, subst, inl, inr, arith, append_assoc, length-append, one-add}
use Rattle.std.proofs.lemmas.Bool.Decides.{nat_tests}
use Rattle.std.proofs.Math.Seq.{drop-cons, take-append_seam, get_or-append_seam}
use Rattle.std.proofs.lemmas.Bool.{cases_lt}
use Rattle.std.proofs.lemmas.List.{length-take-le, take-append-drop, get_or_past}
use Rattle.std.specs.Char.{IsScalar, is_ascii_hexdigit}
use Rattle.std.specs.List.{AllByRecursion, list_all, prefix_len}
use lib.Utf8.{scalar, scalar_cases}
use Rattle.graphql_tokens.specs.tokens.Edition.{Current}
use Rattle.graphql_tokens.specs.tokens.Strings.{Escape, quote, backslash, slash, backspace, form_feed, line_feed, carriage_return, tab, IsEscape, AreHexDigits, hex_value, IsFourDigitEscape, IsBracedEscape, IsHighHalf, IsLowHalf, IsPair, IsCurrentEscape}
use Rattle.graphql_tokens.specs.inner.Escapes.{letter_value, hex_number, four_digits, pair_value, scalar_of, with_len, braced_by, braced_at, low_half_at, pair_with, pair_at, numbered_by, numbered_at, number_at, escape_at}
use Rattle.graphql_tokens.proofs.Options.{some_same}
use Rattle.graphql_tokens.proofs.Escapes.{hex_digit_only}

-- a unit that begins with a backslash
abbrev pub EscapeMeans : List ℕ → ℕ → Type 0
EscapeMeans unit c = IsEscape unit c ⊎ IsFourDigitEscape unit c ⊎ IsCurrentEscape Current unit c

-- ---- tests

pub inside : (bs : List ℕ) (k : ℕ) → 0 < get_or bs k 0 → k < length bs
inside bs k h = by (cases_lt k (length bs))
  where
    by : (k < length bs) ⊎ (length bs ≤ k) → k < length bs
    by (inl l) = l
    by (inr g) = let e : get_or bs k 0 ≡ 0 = get_or_past bs k 0 g in absurd (omega arith)

cond_some : {A : Type 0} (b : Bool) (x : Option A) (v : A) → cond b x None ≡ Some v → (b ≡ true) × (x ≡ Some v)
cond_some true x v e = (refl, e)
cond_some false x v e = absurd (cc)

cond_other : {A : Type 0} (b : Bool) (x : Option A) (v : A) → cond b None x ≡ Some v → (b ≡ false) × (x ≡ Some v)
cond_other true x v e = absurd (cc)
cond_other false x v e = (refl, e)

pub both : (a b : Bool) → (a && b) ≡ true → (a ≡ true) × (b ≡ true)
both true b e = (refl, e)
both false b e = absurd (cc)

all_true : (p : ℕ → Bool) (xs : List ℕ) → list_all p xs ≡ true → AllByRecursion (λ x. p x ≡ true) xs
all_true p [] h = tt
all_true p (x ∷ xs) h = let e = both (p x) (list_all p xs) h in (e.0, all_true p xs e.1)

true_all : (p : ℕ → Bool) (xs : List ℕ) → AllByRecursion (λ x. p x ≡ true) xs → list_all p xs ≡ true
true_all p [] h = refl
true_all p (x ∷ xs) h = ap (λ b. b && list_all p xs) h.0 ∙ true_all p xs h.1

-- ---- letters

pub letter_reads : (e c : ℕ) → Escape e c → (letter_value e ≡ Some c) × (eqb e 117 ≡ false)
letter_reads _ _ quote = (refl, refl)
letter_reads _ _ backslash = (refl, refl)
letter_reads _ _ slash = (refl, refl)
letter_reads _ _ backspace = (refl, refl)
letter_reads _ _ form_feed = (refl, refl)
letter_reads _ _ line_feed = (refl, refl)
letter_reads _ _ carriage_return = (refl, refl)
letter_reads _ _ tab = (refl, refl)

pick : (e c k v : ℕ) (rest : Option ℕ) → Escape k v → (b : Bool) → eqb e k ≡ b → (rest ≡ Some c → Escape e c) → cond b (Some v) rest ≡ Some c → Escape e c
pick e c k v rest w true g f h =
    let same : k ≡ e = grind (arith, nat_tests) in
    let value : v ≡ c = some_same v c h in
    subst (λ (x : ℕ). Escape x c) same (subst (λ (y : ℕ). Escape k y) value w)
pick e c k v rest w false g f h = f h

letter_is : (e c : ℕ) → letter_value e ≡ Some c → Escape e c
letter_is e c =
    pick e c 34 34 _ quote (eqb e 34) refl (pick e c 92 92 _ backslash (eqb e 92) refl (pick e c 47 47 _ slash (eqb e 47) refl (pick e c 98 8 _ backspace (eqb e 98) refl
    (pick e c 102 12 _ form_feed (eqb e 102) refl (pick e c 110 10 _ line_feed (eqb e 110) refl (pick e c 114 13 _ carriage_return (eqb e 114) refl (pick e c 116 9 _ tab (eqb e 116) refl (λ h. absurd (cc)))))))))

-- ---- digits

hex_number_reads : (ds : List ℕ) → AreHexDigits ds → hex_number ds ≡ Some (min (hex_value ds) 0x110000)
hex_number_reads ds h = ap (λ b. cond b (Some (min (hex_value ds) 0x110000)) None) (true_all is_ascii_hexdigit ds h)

hex_number_is : (ds : List ℕ) (n : ℕ) → hex_number ds ≡ Some n → AreHexDigits ds × (min (hex_value ds) 0x110000 ≡ n)
hex_number_is ds n e =
    let s = cond_some (list_all is_ascii_hexdigit ds) (Some (min (hex_value ds) 0x110000)) n e in
    (all_true is_ascii_hexdigit ds s.0, some_same _ _ s.1)

four_small : (ds : List ℕ) → length ds ≡ 4 → AreHexDigits ds → hex_value ds < 0x10000
four_small [] l h = absurd (omega arith)
four_small (a ∷ []) l h = absurd (omega arith)
four_small (a ∷ b ∷ []) l h = absurd (omega arith)
four_small (a ∷ b ∷ c ∷ []) l h = absurd (omega arith)
four_small (a ∷ b ∷ c ∷ d ∷ []) l h = omega (arith, hex_digit_only a h.0, hex_digit_only b h.1.0, hex_digit_only c h.1.1.0, hex_digit_only d h.1.1.1.0)
four_small (a ∷ b ∷ c ∷ d ∷ e ∷ ds) l h = absurd (omega arith)

no_brace : (ds rest : List ℕ) → 0 < length ds → AreHexDigits ds → eqb (get_or (ds ++ rest) 0 0) 123 ≡ false
no_brace [] rest l h = absurd (omega arith)
no_brace (d ∷ ds) rest l h = let x : is_ascii_hexdigit d ≡ true = h.0 in grind (arith, nat_tests)

four_take : (ds rest : List ℕ) → length ds ≡ 4 → (leb 4 (length (ds ++ rest)) ≡ true) × (take 4 (ds ++ rest) ≡ ds) × (drop 4 (ds ++ rest) ≡ rest)
four_take [] rest l = absurd (omega arith)
four_take (a ∷ []) rest l = absurd (omega arith)
four_take (a ∷ b ∷ []) rest l = absurd (omega arith)
four_take (a ∷ b ∷ c ∷ []) rest l = absurd (omega arith)
four_take (a ∷ b ∷ c ∷ d ∷ []) rest l = (grind (arith, nat_tests), refl, refl)
four_take (a ∷ b ∷ c ∷ d ∷ e ∷ ds) rest l = absurd (omega arith)

four_reads : (ds rest : List ℕ) → length ds ≡ 4 → AreHexDigits ds → four_digits (ds ++ rest) ≡ Some (hex_value ds)
four_reads ds rest l h =
    let t = four_take ds rest l in
    let small : min (hex_value ds) 0x110000 ≡ hex_value ds = omega (arith, four_small ds l h) in
    ap (λ b. cond b (hex_number (take 4 (ds ++ rest))) None) t.0 ∙ ap hex_number t.1 ∙ hex_number_reads ds h ∙ ap (λ n. Some n) small

record Four (text : List ℕ) (n : ℕ) : Type 0 where
  digits : List ℕ
  rest : List ℕ
  whole : text ≡ digits ++ rest
  long : length digits ≡ 4
  hex : AreHexDigits digits
  value : hex_value digits ≡ n

four_is : (text : List ℕ) (n : ℕ) → four_digits text ≡ Some n → Four text n
four_is text n e =
    let s = cond_some (leb 4 (length text)) (hex_number (take 4 text)) n e in
    let l : 4 ≤ length text = grind (arith, nat_tests, s.0) in
    let h = hex_number_is (take 4 text) n s.1 in
    let long : length (take 4 text) ≡ 4 = length-take-le 4 text l in
    record {
      digits = take 4 text;
      rest = drop 4 text;
      whole = sym (take-append-drop 4 text);
      long = long;
      hex = h.0;
      value = omega (arith, h.1, four_small (take 4 text) long h.0);
    }

-- ---- one digit or more in braces

pub prefix_passes : (p : ℕ → Bool) (xs : List ℕ) → list_all p (take (prefix_len p xs) xs) ≡ true
prefix_passes p [] = refl
prefix_passes p (x ∷ xs) = by (p x) refl (prefix_passes p xs)
  where
    by : (b : Bool) → p x ≡ b → list_all p (take (prefix_len p xs) xs) ≡ true → list_all p (take (cond b (1 + prefix_len p xs) 0) (x ∷ xs)) ≡ true
    by true e r = rw (one-add (prefix_len p xs)) (ap (λ b. b && list_all p (take (prefix_len p xs) xs)) e ∙ r)
    by false e r = refl

digits_end : (ds rest : List ℕ) → AreHexDigits ds → prefix_len is_ascii_hexdigit (ds ++ (125 ∷ rest)) ≡ length ds
digits_end [] rest h = refl
digits_end (d ∷ ds) rest h = ap (λ b. cond b (1 + prefix_len is_ascii_hexdigit (ds ++ (125 ∷ rest))) 0) h.0 ∙ ap (λ n. 1 + n) (digits_end ds rest h.1) ∙ omega arith

scalar_small : (c : ℕ) → IsScalar c → c < 0x110000
scalar_small c h = by (scalar_cases c h)
  where
    by : (c < 55296) ⊎ ((57344 ≤ c) × (c < 1114112)) → c < 0x110000
    by (inl l) = omega arith
    by (inr b) = b.1

scalar_reads : (c : ℕ) → IsScalar c → scalar_of c ≡ Some c
scalar_reads c h = ap (λ b. cond b (Some c) None) h

scalar_is : (n c : ℕ) → scalar_of n ≡ Some c → IsScalar c × (n ≡ c)
scalar_is n c e =
    let s = cond_some (scalar n) (Some n) c e in
    let same : n ≡ c = some_same n c s.1 in
    (subst (λ (x : ℕ). IsScalar x) same s.0, same)

len_is : (k : ℕ) (o : Option ℕ) (c n : ℕ) → with_len k o ≡ Some (c, n) → (o ≡ Some c) × (k ≡ n)
len_is k None c n e = absurd (cc)
len_is k (Some x) c n e =
    let p : (let a : ℕ × ℕ = (x, k) in let b : ℕ × ℕ = (c, n) in a ≡ b) = some_same (x, k) (c, n) e in
    (ap (λ q. Some q.0) p, ap (λ q. q.1) p)

braced_reads : (ds rest : List ℕ) (c : ℕ) → 1 ≤ length ds → AreHexDigits ds → hex_value ds ≡ c → IsScalar c → braced_at (ds ++ (125 ∷ rest)) ≡ Some (c, length ds + 4)
braced_reads ds rest c l h v s =
    let text = ds ++ (125 ∷ rest) in
    let n = length ds in
    let some : eqb n 0 ≡ false = grind (arith, nat_tests) in
    let small : min (hex_value ds) 0x110000 ≡ c = omega (arith, v, scalar_small c s) in
    ap (λ k. cond (eqb k 0) None (cond (eqb (get_or text k 0) 125) (braced_by k (hex_number (take k text))) None)) (digits_end ds rest h)
    ∙ ap (λ b. cond b None (cond (eqb (get_or text n 0) 125) (braced_by n (hex_number (take n text))) None)) some
    ∙ ap (λ x. cond (eqb x 125) (braced_by n (hex_number (take n text))) None) (get_or-append_seam ds 125 rest 0)
    ∙ ap (λ x. braced_by n (hex_number x)) (take-append_seam ds (125 ∷ rest))
    ∙ ap (braced_by n) (hex_number_reads ds h)
    ∙ ap (λ x. with_len (n + 4) (scalar_of x)) small
    ∙ ap (with_len (n + 4)) (scalar_reads c s)

record Braced (text : List ℕ) (c n : ℕ) : Type 0 where
  digits : List ℕ
  rest : List ℕ
  whole : text ≡ digits ++ (125 ∷ rest)
  some : 1 ≤ length digits
  hex : AreHexDigits digits
  value : hex_value digits ≡ c
  scalar_value : IsScalar c
  long : n ≡ length digits + 4

braced_by_is : (k : ℕ) (o : Option ℕ) (c n : ℕ) → braced_by k o ≡ Some (c, n) → (m : ℕ) × (o ≡ Some m) × (scalar_of m ≡ Some c) × (k + 4 ≡ n)
braced_by_is k None c n e = absurd (cc)
braced_by_is k (Some m) c n e = let s = len_is (k + 4) (scalar_of m) c n e in (m, refl, s.0, s.1)

braced_is : (text : List ℕ) (c n : ℕ) → braced_at text ≡ Some (c, n) → Braced text c n
braced_is text c n e =
    let k = prefix_len is_ascii_hexdigit text in
    let one = cond_other (eqb k 0) (cond (eqb (get_or text k 0) 125) (braced_by k (hex_number (take k text))) None) (c, n) e in
    let two = cond_some (eqb (get_or text k 0) 125) (braced_by k (hex_number (take k text))) (c, n) one.1 in
    let by = braced_by_is k (hex_number (take k text)) c n two.1 in
    let number = hex_number_is (take k text) by.0 by.1 in
    let is = scalar_is by.0 c by.2 in
    let some : 1 ≤ k = grind (arith, nat_tests, one.0) in
    let brace : get_or text k 0 ≡ 125 = grind (arith, nat_tests, two.0) in
    let within : k < length text = inside text k (omega arith) in
    let long : length (take k text) ≡ k = length-take-le k text (omega arith) in
    record {
      digits = take k text;
      rest = drop (suc k) text;
      whole = sym (take-append-drop k text) ∙ ap (λ x. take k text ++ x) (drop-cons text k 0 within ∙ ap (λ x. x ∷ drop (suc k) text) brace);
      some = omega arith;
      hex = number.0;
      value = omega (arith, number.1, is.1, scalar_small c is.0);
      scalar_value = is.0;
      long = omega (arith, by.3, long);
    }

-- ---- pairs

high_no_scalar : (n : ℕ) → IsHighHalf n → scalar n ≡ false
high_no_scalar n h = let l = h.0 in let m = h.1 in grind (arith, nat_tests)

pub pair_scalar : (h l c : ℕ) → IsHighHalf h → IsLowHalf l → c ≡ 0x10000 + (h - 0xD800) * 0x400 + (l - 0xDC00) → IsScalar c
pair_scalar h l c a b e =
    let low : 57344 ≤ c = omega (arith, a.0, a.1, b.0, b.1) in
    let high : c < 1114112 = omega (arith, a.0, a.1, b.0, b.1) in
    grind (arith, nat_tests)

pair_reads : (h l : ℕ) → IsHighHalf h → IsLowHalf l → pair_value h l ≡ Some (0x10000 + (h - 0xD800) * 0x400 + (l - 0xDC00))
pair_reads h l a b =
    let t : (leb 0xD800 h && leb h 0xDBFF && leb 0xDC00 l && leb l 0xDFFF) ≡ true =
    (let x = a.0 in let y = a.1 in let z = b.0 in let w = b.1 in grind (arith, nat_tests)) in
    ap (λ t. cond t (Some (0x10000 + (h - 0xD800) * 0x400 + (l - 0xDC00))) None) t

record Halves (h l c : ℕ) : Type 0 where
  high : IsHighHalf h
  low : IsLowHalf l
  value : c ≡ 0x10000 + (h - 0xD800) * 0x400 + (l - 0xDC00)

pair_is : (h l c : ℕ) → pair_value h l ≡ Some c → Halves h l c
pair_is h l c e =
    let s = cond_some (leb 0xD800 h && leb h 0xDBFF && leb 0xDC00 l && leb l 0xDFFF) (Some (0x10000 + (h - 0xD800) * 0x400 + (l - 0xDC00))) c e in
    let t = s.0 in
    record {
      high = (grind (arith, nat_tests), grind (arith, nat_tests));
      low = (grind (arith, nat_tests), grind (arith, nat_tests));
      value = sym (some_same _ c s.1);
    }

-- ---- what the relation says is read

four_escape_reads : (ds rest : List ℕ) (n : ℕ) → length ds ≡ 4 → AreHexDigits ds → hex_value ds ≡ n
    → escape_at (92 ∷ 117 ∷ (ds ++ rest)) ≡ numbered_by n (scalar_of n) rest
unfolding escape_at
four_escape_reads ds rest n l h v =
    ap (λ b. cond b (braced_at (drop 1 (ds ++ rest))) (numbered_at (four_digits (ds ++ rest)) (drop 4 (ds ++ rest)))) (no_brace ds rest (omega arith) h)
    ∙ ap (λ o. numbered_at o (drop 4 (ds ++ rest))) (four_reads ds rest l h ∙ ap (λ x. Some x) v)
    ∙ ap (λ x. numbered_by n (scalar_of n) x) (four_take ds rest l).2

low_half_reads : (ds rest : List ℕ) (n : ℕ) → length ds ≡ 4 → AreHexDigits ds → hex_value ds ≡ n → low_half_at (92 ∷ 117 ∷ (ds ++ rest)) ≡ Some n
low_half_reads ds rest n l h v = four_reads ds rest l h ∙ ap (λ x. Some x) v

escape_reads_letter : (u rest : List ℕ) (c : ℕ) → IsEscape u c → escape_at (u ++ rest) ≡ Some (c, length u)
unfolding escape_at
escape_reads_letter u rest c (e, is, w) =
    let r = letter_reads e c w in
    ap (λ x. escape_at (x ++ rest)) is
    ∙ ap (λ b. cond b (number_at rest) (with_len 2 (letter_value e))) r.1
    ∙ ap (with_len 2) r.0
    ∙ ap (λ x. Some (c, length x)) (sym is)

escape_reads_four : (u rest : List ℕ) (c : ℕ) → IsFourDigitEscape u c → escape_at (u ++ rest) ≡ Some (c, length u)
escape_reads_four u rest c ((ds, is, l, h, v), s) =
    let long : 6 ≡ length u = omega (arith, ap length is) in
    ap (λ x. escape_at (x ++ rest)) is
    ∙ four_escape_reads ds rest c l h v
    ∙ ap (λ o. numbered_by c o rest) (scalar_reads c s)
    ∙ ap (λ n. Some (c, n)) long

escape_reads_braced : (u rest : List ℕ) (c : ℕ) → IsBracedEscape u c → escape_at (u ++ rest) ≡ Some (c, length u)
unfolding escape_at
escape_reads_braced u rest c (ds, is, l, h, v, s) =
    let long : length ds + 4 ≡ length u = omega (arith, ap length is, length-append ds (125 ∷ [])) in
    ap (λ x. escape_at (x ++ rest)) is
    ∙ ap braced_at (append_assoc ds (125 ∷ []) rest)
    ∙ braced_reads ds rest c l h v s
    ∙ ap (λ n. Some (c, n)) long

escape_reads_pair : (u rest : List ℕ) (c : ℕ) → IsPair u c → escape_at (u ++ rest) ≡ Some (c, length u)
escape_reads_pair u rest c (first, second, high, low, is, (ds, is1, l1, h1, v1), (es, is2, l2, h2, v2), high_half, low_half, value) =
    let long : 12 ≡ length u = omega (arith, ap length is, length-append first second, ap length is1, ap length is2) in
    let text : u ++ rest ≡ 92 ∷ 117 ∷ (ds ++ (92 ∷ 117 ∷ (es ++ rest))) =
    ap (λ x. x ++ rest) is ∙ append_assoc first second rest ∙ ap (λ x. x ++ (second ++ rest)) is1
    ∙ ap (λ x. 92 ∷ 117 ∷ (ds ++ (x ++ rest))) is2 in
    let none : scalar_of high ≡ None = ap (λ b. cond b (Some high) None) (high_no_scalar high high_half) in
    ap escape_at text
    ∙ four_escape_reads ds (92 ∷ 117 ∷ (es ++ rest)) high l1 h1 v1
    ∙ ap (λ o. numbered_by high o (92 ∷ 117 ∷ (es ++ rest))) none
    ∙ ap (pair_with high) (low_half_reads es rest low l2 h2 v2)
    ∙ ap (with_len 12) (pair_reads high low high_half low_half)
    ∙ ap (λ x. Some (x, 12)) (sym value)
    ∙ ap (λ n. Some (c, n)) long

pub escape_reads : (u rest : List ℕ) (c : ℕ) → EscapeMeans u c → escape_at (u ++ rest) ≡ Some (c, length u)
escape_reads u rest c (inl w) = escape_reads_letter u rest c w
escape_reads u rest c (inr (inl w)) = escape_reads_four u rest c w
escape_reads u rest c (inr (inr (inl w))) = escape_reads_braced u rest c w
escape_reads u rest c (inr (inr (inr w))) = escape_reads_pair u rest c w

-- ---- what is read, the relation says

-- an escape of n characters at the front
pub record Found (text : List ℕ) (c n : ℕ) : Type 0 where
  pub unit : List ℕ
  pub rest : List ℕ
  pub whole : text ≡ unit ++ rest
  pub long : length unit ≡ n
  pub means : EscapeMeans unit c

letter_found : (y c n : ℕ) (t : List ℕ) → with_len 2 (letter_value y) ≡ Some (c, n) → Found (92 ∷ y ∷ t) c n
letter_found y c n t e =
    let s = len_is 2 (letter_value y) c n e in
    record { unit = 92 ∷ y ∷ []; rest = t; whole = refl; long = s.1; means = inl (y, refl, letter_is y c s.0) }

braced_found : (c n : ℕ) (t : List ℕ) → braced_at t ≡ Some (c, n) → Found (92 ∷ 117 ∷ 123 ∷ t) c n
braced_found c n t e =
    let b = braced_is t c n e in
    record {
      unit = 92 ∷ 117 ∷ 123 ∷ (b.digits ++ 125 ∷ []);
      rest = b.rest;
      whole = ap (λ x. 92 ∷ 117 ∷ 123 ∷ x) (b.whole ∙ sym (append_assoc b.digits (125 ∷ []) b.rest));
      long = omega (arith, b.long, length-append b.digits (125 ∷ []));
      means = inr (inr (inl (b.digits, refl, b.some, b.hex, b.value, b.scalar_value)));
    }

pair_found : (ds after : List ℕ) (high c n : ℕ) → length ds ≡ 4 → AreHexDigits ds → hex_value ds ≡ high → pair_at high after ≡ Some (c, n) → Found (92 ∷ 117 ∷ (ds ++ after)) c n
pair_found ds after high c n l h v e = by (low_half_at after) refl e
  where
    slashes : (after : List ℕ) (low : ℕ) → low_half_at after ≡ Some low → (t : List ℕ) × (after ≡ 92 ∷ 117 ∷ t) × Four t low
    slashes [] low g = absurd (cc)
    slashes (x ∷ []) low g = let s = cond_some (eqb x 92 && eqb 0 117) (four_digits []) low g in let no_u = (both (eqb x 92) (eqb 0 117) s.0).1 in absurd (cc)
    slashes (x ∷ y ∷ t) low g =
        let s = cond_some (eqb x 92 && eqb y 117) (four_digits t) low g in
        let b = both (eqb x 92) (eqb y 117) s.0 in
        let first : x ≡ 92 = grind (arith, nat_tests, b.0) in
        let second : y ≡ 117 = grind (arith, nat_tests, b.1) in
        (t, ap (λ z. z ∷ y ∷ t) first ∙ ap (λ z. 92 ∷ z ∷ t) second, four_is t low s.1)

    by : (o : Option ℕ) → low_half_at after ≡ o → pair_with high o ≡ Some (c, n) → Found (92 ∷ 117 ∷ (ds ++ after)) c n
    by None g f = absurd (cc)
    by (Some low) g f =
        let b = slashes after low g in
        let four = b.2 in
        let s = len_is 12 (pair_value high low) c n f in
        let p = pair_is high low c s.0 in
        let second = 92 ∷ 117 ∷ four.digits in
        record {
          unit = (92 ∷ 117 ∷ ds) ++ second;
          rest = four.rest;
          whole = ap (λ x. 92 ∷ 117 ∷ (ds ++ x)) (b.1 ∙ ap (λ x. 92 ∷ 117 ∷ x) four.whole) ∙ ap (λ x. 92 ∷ 117 ∷ x) (sym (append_assoc ds second four.rest));
          long = omega (arith, length-append ds second, four.long, s.1);
          means = inr (inr (inr (92 ∷ 117 ∷ ds, second, high, low, refl, (ds, refl, l, h, v), (four.digits, refl, four.long, four.hex, four.value), p.high, p.low, p.value)));
        }

numbered_found : (t : List ℕ) (c n : ℕ) → numbered_at (four_digits t) (drop 4 t) ≡ Some (c, n) → Found (92 ∷ 117 ∷ t) c n
numbered_found t c n e = by (four_digits t) refl e
  where
    scalar_by : (m : ℕ) → Four t m → (o : Option ℕ) → scalar_of m ≡ o → numbered_by m o (drop 4 t) ≡ Some (c, n) → Found (92 ∷ 117 ∷ t) c n
    scalar_by m f None g h =
        let after : drop 4 t ≡ f.rest = ap (drop 4) f.whole ∙ (four_take f.digits f.rest f.long).2 in
        let p = pair_found f.digits f.rest m c n f.long f.hex f.value (ap (pair_at m) (sym after) ∙ h) in
        subst (λ (x : List ℕ). Found (92 ∷ 117 ∷ x) c n) (sym f.whole) p
    scalar_by m f (Some x) g h =
        let s = len_is 6 (Some x) c n h in
        let is : x ≡ c = some_same x c s.0 in
        let v = scalar_is m c (g ∙ s.0) in
        record {
          unit = 92 ∷ 117 ∷ f.digits;
          rest = f.rest;
          whole = ap (λ y. 92 ∷ 117 ∷ y) f.whole;
          long = omega (arith, f.long, s.1);
          means = inr (inl ((f.digits, refl, f.long, f.hex, f.value ∙ v.1), v.0));
        }

    by : (o : Option ℕ) → four_digits t ≡ o → numbered_at o (drop 4 t) ≡ Some (c, n) → Found (92 ∷ 117 ∷ t) c n
    by None g h = absurd (cc)
    by (Some m) g h = scalar_by m (four_is t m g) (scalar_of m) refl h

number_found : (t : List ℕ) (c n : ℕ) → number_at t ≡ Some (c, n) → Found (92 ∷ 117 ∷ t) c n
number_found t c n e = by t (eqb (get_or t 0 0) 123) refl e
  where
    by : (t : List ℕ) (b : Bool) → eqb (get_or t 0 0) 123 ≡ b → cond b (braced_at (drop 1 t)) (numbered_at (four_digits t) (drop 4 t)) ≡ Some (c, n) → Found (92 ∷ 117 ∷ t) c n
    by [] true g h = absurd (cc)
    by (x ∷ t) true g h =
        let is : 123 ≡ x = grind (arith, nat_tests) in
        subst (λ (y : ℕ). Found (92 ∷ 117 ∷ y ∷ t) c n) is (braced_found c n t h)
    by t false g h = numbered_found t c n h

pub escape_found : (text : List ℕ) (c n : ℕ) → escape_at text ≡ Some (c, n) → Found text c n
unfolding escape_at
escape_found [] c n e = absurd (cc)
escape_found (x ∷ []) c n e = by (eqb x 92) e
  where
    by : (b : Bool) → cond b (with_len 2 (letter_value 0)) None ≡ Some (c, n) → Found (x ∷ []) c n
    by true h = absurd (cc)
    by false h = absurd (cc)
escape_found (x ∷ y ∷ t) c n e =
    let s = cond_some (eqb x 92) (cond (eqb y 117) (number_at t) (with_len 2 (letter_value y))) (c, n) e in
    let is : 92 ≡ x = grind (arith, nat_tests, s.0) in
    subst (λ (z : ℕ). Found (z ∷ y ∷ t) c n) is (by (eqb y 117) refl s.1)
  where
    by : (b : Bool) → eqb y 117 ≡ b → cond b (number_at t) (with_len 2 (letter_value y)) ≡ Some (c, n) → Found (92 ∷ y ∷ t) c n
    by true g h = let is : 117 ≡ y = grind (arith, nat_tests) in subst (λ (z : ℕ). Found (92 ∷ z ∷ t) c n) is (number_found t c n h)
    by false g h = letter_found y c n t h
