-- Texts that are cut before a character, and the walk through a string.
use Rattle.std.proofs.Common.{◌≡◌, ◌≢◌, ℕ, ◌+◌, ◌-◌, ◌≤◌, ◌<◌, inl, inr, Bool, true, false, List, [], ◌∷◌, ◌++◌, Option, Some, None, length, take, drop, get_or, refl, sym, ap, ◌∙◌, subst, append_assoc, append-nil, length-append, arith}
use Rattle.std.specs.Prelude.{◌==◌, IfSome, IfNone, is_some}
use Rattle.std.specs.String.{string_bytes}
use Rattle.std.specs.declared.string.String.{String}
use Rattle.std.specs.declared.alloc.Global.{Global}
use Rattle.std.specs.Char.{encode_utf8}
use Rattle.std.specs.Str.{chars, IsUtf8, IsCharBoundary, NoCharPasses, NonePass, encode_utf8_all}
use Rattle.std.specs.declared.str.Chars.{Chars}
use Rattle.std.specs.Str.Iter.{chars_rest, chars_steps}
use Rattle.std.specs.Str.Pattern.{HasCharAt}
use Rattle.std.proofs.Math.Seq.{drop-append_seam}
use Rattle.std.proofs.lemmas.Bool.Decides.{nat_tests}
use Rattle.std.proofs.lemmas.List.{take-append-drop, drop-drop, append_cancel_right, nil_from_length, get_or_at, take_at, drop_at}
use Rattle.std.proofs.lemmas.Str.{chars-nil, chars_past_char, chars_from_encodes, encodes-chars, encodes-append, encode_ascii, IsUtf8-past_char, IsUtf8-nil, IsUtf8-take, IsUtf8-drop, IsCharBoundary-before_ascii, IsCharBoundary-at_seam, length-le-encodes}
use Rattle.graphql_tokens.proofs.Chars.{chars_split, chars_past}
use Rattle.graphql_tokens.specs.tokens.Edition.{Current}
use Rattle.graphql_tokens.specs.tokens.Place.{is_line_end}
use Rattle.graphql_tokens.specs.tokens.Strings.{StringMeans, IsContent}
use Rattle.graphql_report.specs.inner.Strings.{IsSplit, HasNoUnit, IsBad, Ends, Passes}
use Rattle.graphql_report.specs.inner.Carets.{TellsEscape}
use Rattle.graphql_report.specs.reports.Escapes.{HasBadEscape}
use Rattle.graphql_report.specs.reports.Faults.{IsBlockQuoted}
use Rattle.graphql_report.proofs.Escapes.{Walked, none-bad, found-bad, no-string, begun}

-- ---- the first characters

-- a rest of the text, after so many characters
pub record Dropped (text : List ℕ) (n : ℕ) (rest : List ℕ) : Type 0 where
  pub utf8 : IsUtf8 rest
  pub is : chars rest ≡ drop n (chars text)

pub dropped-none : (text : List ℕ) → IsUtf8 text → Dropped text 0 text
dropped-none text u = record { utf8 = u; is = refl }

pub dropped-next : (text : List ℕ) (old new : Chars) (n : ℕ) (r : Option ℕ) → Dropped text n (chars_rest old) → chars_steps old r new → Dropped text (n + 1) (chars_rest new)
dropped-next text old new n None d h =
    let empty : chars_rest old ≡ [] = nil_from_length (chars_rest old) h.0.0 in
    let none : drop n (chars text) ≡ [] = sym d.is ∙ ap chars empty ∙ chars-nil in
    let same : chars_rest new ≡ chars_rest old = ap chars_rest h.0.1 in
    record {
      utf8 = subst IsUtf8 (sym same) d.utf8;
      is = ap chars (same ∙ empty) ∙ chars-nil ∙ sym (ap (drop 1) none) ∙ drop-drop 1 n (chars text);
    }
dropped-next text old new n (Some c) d h =
    let first : c ∷ chars (chars_rest new) ≡ drop n (chars text) = sym (chars_past_char (chars_rest old) (chars_rest new) c d.utf8 h.0) ∙ d.is in
    record {
      utf8 = IsUtf8-past_char (chars_rest old) (chars_rest new) c d.utf8 h.0;
      is = ap (drop 1) first ∙ drop-drop 1 n (chars text);
    }

pub first-char : (text : List ℕ) (old new : Chars) (c : ℕ) → IsUtf8 text → chars_rest old ≡ text → chars_steps old (Some c) new → chars text ≡ c ∷ chars (chars_rest new)
first-char text old new c u e h = chars_past_char text (chars_rest new) c u (sym e ∙ h.0)

pub dropped-all : (text old new : List ℕ) (n m : ℕ) → Dropped text n old → new ≡ old → n ≤ m → m ≤ n → Dropped text m new
dropped-all text old new n m d e h k =
    let same : n ≡ m = omega arith in
    subst (λ (l : List ℕ). Dropped text m l) (sym e) (subst (λ (i : ℕ). Dropped text i old) same d)

whole : (text rest : List ℕ) (n : ℕ) → IsUtf8 text → Dropped text n rest → text ≡ encode_utf8_all (take n (chars text)) ++ rest
whole text rest n u d =
    sym (encodes-chars text u) ∙ ap encode_utf8_all (sym (take-append-drop n (chars text))) ∙ encodes-append (take n (chars text)) (drop n (chars text))
    ∙ ap (λ (l : List ℕ). encode_utf8_all (take n (chars text)) ++ l) (ap encode_utf8_all (sym d.is) ∙ encodes-chars rest d.utf8)

pub no-longer : (text rest : List ℕ) (n : ℕ) → IsUtf8 text → Dropped text n rest → length rest ≤ length text
no-longer text rest n u d = omega (arith, ap length (whole text rest n u d), length-append (encode_utf8_all (take n (chars text))) rest)

pub cut-before : (text rest : List ℕ) (n at : ℕ) → IsUtf8 text → Dropped text n rest → at ≡ length text - length rest → IsCharBoundary text at
cut-before text rest n at u d e =
    let front : List ℕ = encode_utf8_all (take n (chars text)) in
    let is : length front ≡ at = omega (arith, e, ap length (whole text rest n u d), length-append front rest) in
    subst (IsCharBoundary text) is (IsCharBoundary-at_seam text front rest (whole text rest n u d) d.utf8)

pub record Cut (text front back : List ℕ) (n : ℕ) : Type 0 where
  pub split : IsSplit text front back
  pub first : chars front ≡ take n (chars text)
  pub utf8 : IsUtf8 back

pub cut : (text rest front back : List ℕ) (n at : ℕ) → IsUtf8 text → Dropped text n rest → at ≡ length text - length rest → front ≡ take at text → back ≡ drop at text → Cut text front back n
cut text rest front back n at u d e f b =
    let before : List ℕ = encode_utf8_all (take n (chars text)) in
    let is : at ≡ length before = omega (arith, e, ap length (whole text rest n u d), length-append before rest) in
    let back-is : back ≡ rest = b ∙ ap (λ k. drop k text) is ∙ ap (drop (length before)) (whole text rest n u d) ∙ drop-append_seam before rest in
    let after : chars back ≡ drop n (chars text) = ap chars back-is ∙ d.is in
    let parts : chars text ≡ chars front ++ chars back = chars_split text at u (cut-before text rest n at u d e) ∙ ap (λ (l : List ℕ). chars l ++ chars (drop at text)) (sym f) ∙ ap (λ (l : List ℕ). chars front ++ chars l) (sym b) in
    record {
      split = parts;
      first = append_cancel_right (chars front) (take n (chars text)) (drop n (chars text)) (ap (λ (l : List ℕ). chars front ++ l) (sym after) ∙ sym parts ∙ sym (take-append-drop n (chars text)));
      utf8 = subst IsUtf8 (sym back-is) d.utf8;
    }

-- ---- the first closing brace

abbrev is_brace : ℕ → Bool
is_brace c = c == 125

brace-not-passed : (xs : List ℕ) (after : List ℕ) → NonePass is_brace (xs ++ 125 ∷ after) → ⊥
brace-not-passed [] after h = let e : true ≡ false = h.0 in absurd (cc)
brace-not-passed (x ∷ xs) after h = brace-not-passed xs after h.1

same-front : (xs ys r s : List ℕ) → NonePass is_brace xs → NonePass is_brace ys → xs ++ 125 ∷ r ≡ ys ++ 125 ∷ s → xs ≡ ys
same-front [] [] r s h k e = refl
same-front [] (y ∷ ys) r s h k e =
    let is : 125 ≡ y = cc in
    let other : (y == 125) ≡ false = k.0 in absurd (grind (arith, nat_tests))
same-front (x ∷ xs) [] r s h k e =
    let is : x ≡ 125 = cc in
    let other : (x == 125) ≡ false = h.0 in absurd (grind (arith, nat_tests))
same-front (x ∷ xs) (y ∷ ys) r s h k e =
    let is : x ≡ y = cc in
    let tails : xs ++ 125 ∷ r ≡ ys ++ 125 ∷ s = cc in
    ap (λ z. z ∷ xs) is ∙ ap (λ (l : List ℕ). y ∷ l) (same-front xs ys r s h.1 k.1 tails)

pub record CutAtBrace (text front back : List ℕ) : Type 0 where
  pub split : IsSplit text front back
  pub brace : (xs after : List ℕ) → NonePass (λ c. c == 125) xs → chars text ≡ xs ++ 125 ∷ after → chars front ≡ xs ++ 125 ∷ []
  pub some : 1 ≤ length (chars text) → 1 ≤ length (chars front)
  pub utf8 : IsUtf8 back

pub no-brace : (text : List ℕ) → IsUtf8 text → NoCharPasses (λ c. c == 125) text → CutAtBrace text text []
no-brace text u none = record {
  split = sym (append-nil (chars text)) ∙ ap (λ (l : List ℕ). chars text ++ l) (sym chars-nil);
  brace = λ xs after h e. absurd (brace-not-passed xs after (subst (NonePass is_brace) (chars_from_encodes none.0 text u none.1 ∙ e) none.2));
  some = λ h. h;
  utf8 = IsUtf8-nil;
}

pub at-brace : (text front back : List ℕ) (i j : ℕ) → IsUtf8 text → IsCharBoundary text i → IsCharBoundary text j → NoCharPasses (λ c. c == 125) (take i text) → HasCharAt 125 text i j
    → front ≡ take j text → back ≡ drop j text → CutAtBrace text front back
at-brace text front back i j u b d none has f g =
    let before : none.0 ≡ chars (take i text) = chars_from_encodes none.0 (take i text) (IsUtf8-take text i u b) none.1 in
    let first : chars front ≡ none.0 ++ 125 ∷ [] = ap chars f ∙ chars_past text i j 125 u b has.split has.ends ∙ ap (λ (l : List ℕ). l ++ 125 ∷ []) (sym before) in
    let parts : chars text ≡ chars front ++ chars back = chars_split text j u d ∙ ap (λ (l : List ℕ). chars l ++ chars (drop j text)) (sym f) ∙ ap (λ (l : List ℕ). chars front ++ chars l) (sym g) in
    let whole : chars text ≡ none.0 ++ 125 ∷ chars back = parts ∙ ap (λ (l : List ℕ). l ++ chars back) first ∙ append_assoc none.0 (125 ∷ []) (chars back) in
    record {
      split = parts;
      brace = λ xs after h e. first ∙ ap (λ (l : List ℕ). l ++ 125 ∷ []) (same-front none.0 xs (chars back) after none.2 h (sym whole ∙ e));
      some = λ h. omega (arith, ap length first, length-append none.0 (125 ∷ []));
      utf8 = subst IsUtf8 (sym g) (IsUtf8-drop text j u d);
    }

-- ---- the walk in bytes

pub shorter : (rest after : List ℕ) → IsUtf8 rest → IsUtf8 after → Passes (chars rest) (chars after) → length after < length rest
shorter rest after u v p =
    let bytes : rest ≡ encode_utf8_all p.content ++ after = sym (encodes-chars rest u) ∙ ap encode_utf8_all p.whole ∙ encodes-append p.content (chars after) ∙ ap (λ (l : List ℕ). encode_utf8_all p.content ++ l) (encodes-chars after v) in
    omega (arith, ap length bytes, length-append (encode_utf8_all p.content) after, length-le-encodes p.content, p.some)

walked-bytes : (text rest passed : List ℕ) → IsUtf8 text → IsUtf8 rest → chars text ≡ 34 ∷ (passed ++ chars rest) → text ≡ 34 ∷ (encode_utf8_all passed ++ rest)
walked-bytes text rest passed u v e =
    sym (encodes-chars text u) ∙ ap encode_utf8_all e ∙ ap (λ (l : List ℕ). l ++ encode_utf8_all (passed ++ chars rest)) (encode_ascii 34 (omega arith)) ∙ ap (λ (l : List ℕ). 34 ∷ l) (encodes-append passed (chars rest) ∙ ap (λ (l : List ℕ). encode_utf8_all passed ++ l) (encodes-chars rest v))

pub rest-within : (text rest : List ℕ) → IsUtf8 text → IsUtf8 rest → Walked (chars text) (chars rest) → length rest ≤ length text
rest-within text rest u v w = omega (arith, ap length (walked-bytes text rest w.passed u v w.whole), length-append (encode_utf8_all w.passed) rest)

-- the quote was passed
pub after-quote : (text rest : List ℕ) → IsUtf8 text → IsUtf8 rest → Walked (chars text) (chars rest) → 1 ≤ length text - length rest
after-quote text rest u v w = omega (arith, ap length (walked-bytes text rest w.passed u v w.whole), length-append (encode_utf8_all w.passed) rest)

pub tells-bad : (text rest : List ℕ) (offset : ℕ) → IsUtf8 text → IsUtf8 rest → Walked (chars text) (chars rest) → IsBad (chars rest) → offset ≡ length text - length rest → TellsEscape (chars text) offset
tells-bad text rest offset u v w bad e =
    let found = found-bad (chars text) w.passed (chars rest) w.good w.whole bad in
    inr (found.0, omega (arith, e, ap length (walked-bytes text rest w.passed u v w.whole), length-append (encode_utf8_all w.passed) rest, ap (λ (l : List ℕ). length (encode_utf8_all l)) found.1))

pub tells-none : (text rest : List ℕ) → Walked text rest → Ends rest → TellsEscape text 0
tells-none text rest w ends = inl (refl, none-bad text w.passed rest w.good w.whole ends)

-- a text that begins with no quote has no string
pub tells-other : (text : List ℕ) → IsUtf8 text → ((rest : List ℕ) → text ≢ encode_utf8 34 ++ rest) → TellsEscape (chars text) 0
tells-other text u other = inl (refl, no-string (chars text) (λ rest e. other (encode_utf8_all rest) (sym (encodes-chars text u) ∙ ap encode_utf8_all e)))

pub walk-begun : (text rest : List ℕ) → IsUtf8 text → text ≡ encode_utf8 34 ++ rest → IsUtf8 rest × Walked (chars text) (chars rest)
walk-begun text rest u e = (IsUtf8-past_char text rest 34 u e, begun (chars text) (chars rest) (chars_past_char text rest 34 u e))

-- ---- what was tried

pub none-of : {A : Type 0} (o : Option A) (b : Bool) (P : Type 0) → b ≡ is_some o → b ≡ false → IfNone o P → P
none-of None b P e f h = h
none-of (Some x) b P e f h = absurd (cc)

pub content-of : (o : Option (String Global)) (b : Bool) (text : List ℕ) → b ≡ is_some o → b ≡ true → IfSome o (λ s. StringMeans Current text (chars (string_bytes s))) → IsContent Current text
content-of None b text e f h = absurd (cc)
content-of (Some s) b text e f h = (chars (string_bytes s), h)

pub bad-ahead : (text first rest more after : List ℕ) (c : ℕ) → text ≡ first ++ rest → first ≡ take 1 text → text ≡ 92 ∷ after → rest ≡ c ∷ more → is_line_end c ≡ false → HasNoUnit text → IsBad text
bad-ahead text first rest more after c split one is e line none =
    let front : first ≡ 92 ∷ [] = one ∙ ap (take 1) is in
    record { next = c; rest = more; is = split ∙ ap (λ (l : List ℕ). l ++ rest) front ∙ ap (λ (l : List ℕ). 92 ∷ l) e; in_line = line; none = none }

-- ---- where a text has its first bad escape

-- the text is cut there, and a backslash is next
pub record IsAtEscape (text : List ℕ) (offset : ℕ) (bad : HasBadEscape (chars text)) : Type 0 where
  pub boundary : IsCharBoundary text offset
  pub front : chars (take offset text) ≡ 34 ∷ bad.content
  pub back : chars (drop offset text) ≡ 92 ∷ bad.next ∷ bad.rest
  pub byte : get_or text offset 0 ≡ 92

pub at-escape : (text : List ℕ) (offset : ℕ) → IsUtf8 text → (bad : HasBadEscape (chars text)) → offset ≡ 1 + length (encode_utf8_all bad.content) → IsAtEscape text offset bad
at-escape text offset u bad e =
    let front : List ℕ = 34 ∷ encode_utf8_all bad.content in
    let after : List ℕ = encode_utf8_all (bad.next ∷ bad.rest) in
    let first : encode_utf8_all (34 ∷ bad.content) ≡ front = ap (λ (l : List ℕ). l ++ encode_utf8_all bad.content) (encode_ascii 34 (omega arith)) in
    let next : encode_utf8_all (92 ∷ bad.next ∷ bad.rest) ≡ 92 ∷ after = ap (λ (l : List ℕ). l ++ after) (encode_ascii 92 (omega arith)) in
    let is : text ≡ front ++ 92 ∷ after = sym (encodes-chars text u) ∙ ap encode_utf8_all bad.is ∙ encodes-append (34 ∷ bad.content) (92 ∷ bad.next ∷ bad.rest) ∙ ap (λ (l : List ℕ). l ++ encode_utf8_all (92 ∷ bad.next ∷ bad.rest)) first ∙ ap (λ (l : List ℕ). front ++ l) next in
    let long : length front ≡ offset = omega (arith, e) in
    let byte : get_or text offset 0 ≡ 92 = ap (λ (l : List ℕ). get_or l offset 0) is ∙ get_or_at front 92 after 0 offset long in
    let boundary : IsCharBoundary text offset = IsCharBoundary-before_ascii text offset (omega (arith, ap length is, length-append front (92 ∷ after))) (omega (arith, byte)) in
    record {
      boundary = boundary;
      front = sym (chars_from_encodes (34 ∷ bad.content) (take offset text) (IsUtf8-take text offset u boundary) (first ∙ sym (ap (take offset) is ∙ take_at front (92 ∷ after) offset long)));
      back = sym (chars_from_encodes (92 ∷ bad.next ∷ bad.rest) (drop offset text) (IsUtf8-drop text offset u boundary) (next ∙ sym (ap (drop offset) is ∙ drop_at front (92 ∷ after) offset long)));
      byte = byte;
    }

-- the first bad escape stands at the front of this rest
pub record EscapeAt (text rest : List ℕ) : Type 0 where
  pub bad : HasBadEscape (chars text)
  pub is : chars rest ≡ 92 ∷ bad.next ∷ bad.rest

pub escape-at : (text rest : List ℕ) (offset : ℕ) → IsUtf8 text → TellsEscape (chars text) offset → 1 ≤ offset → (IsCharBoundary text offset → rest ≡ drop offset text) → EscapeAt text rest
escape-at text rest offset u (inl (none, good)) some back = absurd (omega (arith, none, some))
escape-at text rest offset u (inr (bad, e)) some back = let at = at-escape text offset u bad e in record { bad = bad; is = ap chars (back at.boundary) ∙ at.back }

pub no-escape : (text : List ℕ) → TellsEscape text 0 → HasBadEscape text → ⊥
no-escape text (inl (none, good)) = good
no-escape text (inr (bad, e)) = absurd (omega (arith, e))

-- ---- block strings

quote-bytes : (cs : List ℕ) → encode_utf8_all (34 ∷ cs) ≡ 34 ∷ encode_utf8_all cs
quote-bytes cs = ap (λ (l : List ℕ). l ++ encode_utf8_all cs) (encode_ascii 34 (omega arith))

after-a-quote : (text rest : List ℕ) → IsUtf8 text → text ≡ 34 ∷ rest → IsUtf8 rest × (chars text ≡ 34 ∷ chars rest)
after-a-quote text rest u e =
    let is : text ≡ encode_utf8 34 ++ rest = e ∙ ap (λ (l : List ℕ). l ++ rest) (sym (encode_ascii 34 (omega arith))) in
    (IsUtf8-past_char text rest 34 u is, chars_past_char text rest 34 u is)

pub block-quoted : (text rest : List ℕ) → IsUtf8 text → text ≡ 34 ∷ 34 ∷ 34 ∷ rest → IsBlockQuoted (chars text)
block-quoted text rest u e =
    let one = after-a-quote text (34 ∷ 34 ∷ rest) u e in
    let two = after-a-quote (34 ∷ 34 ∷ rest) (34 ∷ rest) one.0 refl in
    let three = after-a-quote (34 ∷ rest) rest two.0 refl in
    (chars rest, one.1 ∙ ap (λ (l : List ℕ). 34 ∷ l) (two.1 ∙ ap (λ (l : List ℕ). 34 ∷ l) three.1))

pub not-block : (text : List ℕ) → IsUtf8 text → ((rest : List ℕ) → text ≢ 34 ∷ 34 ∷ 34 ∷ rest) → IsBlockQuoted (chars text) → ⊥
not-block text u other (rest, e) = other (encode_utf8_all rest)
    (sym (encodes-chars text u) ∙ ap encode_utf8_all e ∙ quote-bytes (34 ∷ 34 ∷ rest) ∙ ap (λ (l : List ℕ). 34 ∷ l) (quote-bytes (34 ∷ rest) ∙ ap (λ (l : List ℕ). 34 ∷ l) (quote-bytes rest)))
