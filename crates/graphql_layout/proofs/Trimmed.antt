-- A comment without the blanks at its end.
use Rattle.std.proofs.Common.{◌≡◌, ℕ, ◌-◌, ◌<◌, Bool, true, false, ◌&&◌, if◌then◌else◌, Option, Some, None, IfSome, List, [], ◌∷◌, ◌++◌, length, take, drop, refl, sym, ap, ◌∙◌, subst, append_assoc, append-nil, arith, length-drop, get_or, zero, suc}
use Rattle.std.proofs.lemmas.Bool.Decides.{nat_tests}
use Rattle.std.proofs.Math.Seq.{get_or-append_seam}
use Rattle.std.proofs.lemmas.List.{take-append-drop, drop_all, length-append}
use Rattle.std.proofs.lemmas.Str.{chars-append, IsUtf8-take, IsCharBoundary-before_ascii, encode_ascii, chars-IsAscii, encodes-chars, encodes-append, len_utf8_ascii}
use Rattle.std.specs.Char.{char_set_contains, encode_utf8, IsScalar}
use Rattle.std.specs.List.{AllByRecursion}
use Rattle.std.specs.Str.{chars, IsUtf8, encode_utf8_all}
use Rattle.std.specs.Str.Pattern.{CutsSuffixes, FindsSuffixBy, HasPassingCharAt, IsFullyTrimmed, IsTrimEndMatches}
use Rattle.graphql_tokens.specs.tokens.BlockText.{is_blank_char, is_blank}
use Rattle.graphql_tokens.specs.tokens.Ignored.{IsComment}
use Rattle.graphql_tokens.specs.tokens.Place.{is_line_end}
use Rattle.graphql_layout.specs.texts.LaidOut.{trimmed}

abbrev AreBlank : List ℕ → Type 0
AreBlank blanks = AllByRecursion (λ c. is_blank_char c ≡ true) blanks

-- its last character, if there is one, is no blank
abbrev pub EndsBare : List ℕ → Type 0
EndsBare [] = Unit {0}
EndsBare (c ∷ []) = is_blank_char c ≡ false
EndsBare (c ∷ d ∷ ds) = EndsBare (d ∷ ds)

all_blank : (blanks : List ℕ) → AreBlank blanks → is_blank blanks ≡ true
all_blank [] h = refl
all_blank (c ∷ cs) h = ap (λ (b : Bool). b && is_blank cs) h.0 ∙ all_blank cs h.1

none_kept : (blanks : List ℕ) → AreBlank blanks → trimmed blanks ≡ []
none_kept [] h = refl
none_kept (c ∷ cs) h = ap (λ (b : Bool). if b then [] else c ∷ trimmed cs) (all_blank (c ∷ cs) h)

and_false : (b : Bool) → (b && false) ≡ false
and_false true = refl
and_false false = refl

pub not_blank : (c : ℕ) (kept blanks : List ℕ) → EndsBare (c ∷ kept) → is_blank (c ∷ (kept ++ blanks)) ≡ false
not_blank c [] blanks h = ap (λ (b : Bool). b && is_blank blanks) h
not_blank c (d ∷ kept) blanks h = ap (λ (b : Bool). is_blank_char c && b) (not_blank d kept blanks h) ∙ and_false (is_blank_char c)

ends_more : (c : ℕ) (kept : List ℕ) → EndsBare (c ∷ kept) → EndsBare kept
ends_more c [] h = tt
ends_more c (d ∷ kept) h = h

pub kept_is : (kept blanks : List ℕ) → EndsBare kept → AreBlank blanks → trimmed (kept ++ blanks) ≡ kept
kept_is [] blanks h k = none_kept blanks k
kept_is (c ∷ kept) blanks h k =
    ap (λ (b : Bool). if b then [] else c ∷ trimmed (kept ++ blanks)) (not_blank c kept blanks h) ∙ ap (λ (l : List ℕ). c ∷ l) (kept_is kept blanks (ends_more c kept h) k)

-- ---- a comment stays one

in_line : (b : Bool) (c : ℕ) (cs : List ℕ) → is_line_end c ≡ false → AllByRecursion (λ d. is_line_end d ≡ false) cs → AllByRecursion (λ d. is_line_end d ≡ false) (if b then [] else c ∷ cs)
in_line true c cs h k = tt
in_line false c cs h k = (h, k)

trimmed_in_line : (body : List ℕ) → AllByRecursion (λ d. is_line_end d ≡ false) body → AllByRecursion (λ d. is_line_end d ≡ false) (trimmed body)
trimmed_in_line [] h = tt
trimmed_in_line (c ∷ cs) h = in_line (is_blank (c ∷ cs)) c (trimmed cs) h.0 (trimmed_in_line cs h.1)

pub trimmed_comment : (c : List ℕ) → IsComment c → IsComment (trimmed c)
trimmed_comment [] h = absurd h
trimmed_comment (c ∷ body) h =
    let bare : is_blank (c ∷ body) ≡ false = ap (λ (x : ℕ). is_blank (x ∷ body)) h.0 in
    subst IsComment (sym (ap (λ (b : Bool). if b then [] else c ∷ trimmed body) bare)) (h.0, trimmed_in_line body h.1)

-- ---- what `trim_end_matches` leaves

-- the characters that it is asked to cut
abbrev pub is_cut : ℕ → Bool
is_cut c = char_set_contains (9 ∷ 32 ∷ []) c

same_class : (c : ℕ) → is_cut c ≡ is_blank_char c
same_class c = grind (arith, nat_tests)

record Cut (text kept : List ℕ) : Type 0 where
  blanks : List ℕ
  whole : chars text ≡ chars kept ++ blanks
  blank : AreBlank blanks
  utf8 : IsUtf8 kept

blank_low : (c : ℕ) → is_cut c ≡ true → c < 128
blank_low c h = grind (arith, nat_tests)

one_cut : (m : List ℕ) (n : ℕ) → IsUtf8 m → HasPassingCharAt is_cut m (length m - n) (length m) → Cut m (take (length m - n) m)
one_cut m n u p =
    let c = p.0 in
    let at = p.2 in
    let low = blank_low c p.1 in
    let i = length m - n in
    let nothing : drop (length m) m ≡ [] = drop_all (length m) m (omega arith) in
    let last : drop i m ≡ c ∷ [] = at.split ∙ ap (λ (l : List ℕ). encode_utf8 c ++ l) nothing ∙ append-nil (encode_utf8 c) ∙ encode_ascii c low in
    let inside : i < length m = omega (arith, ap length last, length-drop i m) in
    let boundary = IsCharBoundary-before_ascii m i inside (omega (arith, at.byte low, low)) in
    record {
      blanks = c ∷ [];
      whole =
          ap chars (sym (take-append-drop i m)) ∙ chars-append (take i m) (drop i m) (IsUtf8-take m i u boundary)
          ∙ ap (λ (l : List ℕ). chars (take i m) ++ l) (ap chars last ∙ chars-IsAscii (c ∷ []) (λ k. one_ascii c low k));
      blank = (sym (same_class c) ∙ p.1, tt);
      utf8 = IsUtf8-take m i u boundary;
    }
  where
    one_ascii : (c : ℕ) → c < 128 → (k : ℕ) → get_or (c ∷ []) k 0 < 128
    one_ascii c l zero = l
    one_ascii c l (suc k) = omega arith

both_blank : (xs ys : List ℕ) → AreBlank xs → AreBlank ys → AreBlank (xs ++ ys)
both_blank [] ys h k = k
both_blank (x ∷ xs) ys h k = (h.0, both_blank xs ys h.1 k)

abbrev Suffixes : List ℕ → Option ℕ → Type 0
Suffixes s r = (k : ℕ → Bool) → ((c : ℕ) → char_set_contains (9 ∷ 32 ∷ []) c ≡ k c) → FindsSuffixBy k s r

all_cut : (s : List ℕ) (ns : List ℕ) (r : List ℕ) → IsUtf8 s → CutsSuffixes Suffixes s ns r → Cut s r
all_cut s [] r u h = record { blanks = []; whole = ap chars (sym h) ∙ sym (append-nil (chars r)); blank = tt; utf8 = subst IsUtf8 (sym h) u }
all_cut s (n ∷ ns) r u h =
    let m = h.0 in
    let before = all_cut s ns m u h.1 in
    let one : Cut m r = subst (Cut m) (sym h.3) (one_cut m n before.utf8 (h.2 is_cut (λ c. refl))) in
    record {
      blanks = one.blanks ++ before.blanks;
      whole = before.whole ∙ ap (λ (l : List ℕ). l ++ before.blanks) one.whole ∙ append_assoc (chars r) one.blanks before.blanks;
      blank = both_blank one.blanks before.blanks one.blank before.blank;
      utf8 = one.utf8;
    }

-- ---- and nothing more to cut

ends_bare : (cs : List ℕ) → ((front : List ℕ) (c : ℕ) → cs ≡ front ++ c ∷ [] → is_blank_char c ≡ false) → EndsBare cs
ends_bare [] f = tt
ends_bare (c ∷ []) f = f [] c refl
ends_bare (c ∷ d ∷ ds) f = ends_bare (d ∷ ds) (λ front x e. f (c ∷ front) x (ap (λ (l : List ℕ). c ∷ l) e))

blank_scalar : (c : ℕ) → c < 128 → IsScalar c
blank_scalar c l = grind (arith, nat_tests)

none_left : (r : List ℕ) → IsUtf8 r → FindsSuffixBy is_cut r None → (front : List ℕ) (c : ℕ) → chars r ≡ front ++ c ∷ [] → is_blank_char c ≡ false
none_left r u f front c e = by (is_blank_char c) refl
  where
    whole : r ≡ encode_utf8_all front ++ encode_utf8 c
    whole = sym (encodes-chars r u) ∙ ap encode_utf8_all e ∙ encodes-append front (c ∷ []) ∙ ap (λ (l : List ℕ). encode_utf8_all front ++ l) (append-nil (encode_utf8 c))

    by : (b : Bool) → is_blank_char c ≡ b → is_blank_char c ≡ false
    by false k = k
    by true k =
        let cut : is_cut c ≡ true = same_class c ∙ k in
        let not : is_cut c ≡ false = f c (encode_utf8_all front) (blank_scalar c (blank_low c cut)) whole in
        absurd cc

bare : (r : List ℕ) → IsUtf8 r → IsFullyTrimmed Suffixes r → EndsBare (chars r)
bare r u h = by h.0 (h.1 is_cut (λ c. refl)) h.2
  where
    by : (o : Option ℕ) → FindsSuffixBy is_cut r o → IfSome o (λ n. n ≡ 0) → EndsBare (chars r)
    by None f e = ends_bare (chars r) (none_left r u f)
    by (Some n) f e =
        let low = blank_low f.0 f.1 in
        absurd (omega (arith, e, f.2.ends, len_utf8_ascii f.0 low))

pub trimmed_is : (s r : List ℕ) → IsUtf8 s → IsTrimEndMatches Suffixes s r → chars r ≡ trimmed (chars s)
trimmed_is s r u h =
    let cut = all_cut s h.0.0 r u h.0.1 in
    sym (kept_is (chars r) cut.blanks (bare r cut.utf8 h.1) cut.blank) ∙ sym (ap trimmed cut.whole)

-- ---- where there is nothing to cut

bare_last : (s : List ℕ) → IsUtf8 s → is_blank_char (get_or s (length s - 1) 0) ≡ false → (front : List ℕ) (c : ℕ) → chars s ≡ front ++ c ∷ [] → is_blank_char c ≡ false
bare_last s u n front c e = by (is_blank_char c) refl
  where
    by : (b : Bool) → is_blank_char c ≡ b → is_blank_char c ≡ false
    by false k = k
    by true k =
        let low = blank_low c (same_class c ∙ k) in
        let bytes = encode_utf8_all front in
        let whole : s ≡ bytes ++ c ∷ [] = sym (encodes-chars s u) ∙ ap encode_utf8_all e ∙ encodes-append front (c ∷ []) ∙ ap (λ (l : List ℕ). bytes ++ l) (append-nil (encode_utf8 c) ∙ encode_ascii c low) in
        let long : length s - 1 ≡ length bytes = omega (arith, ap length whole, length-append bytes (c ∷ [])) in
        let last : get_or s (length s - 1) 0 ≡ c = ap (λ (i : ℕ). get_or s i 0) long ∙ ap (λ (l : List ℕ). get_or l (length bytes) 0) whole ∙ get_or-append_seam bytes c [] 0 in
        sym (ap is_blank_char last) ∙ n

pub bare_end : (s : List ℕ) → IsUtf8 s → is_blank_char (get_or s (length s - 1) 0) ≡ false → EndsBare (chars s)
bare_end s u n = ends_bare (chars s) (bare_last s u n)

pub bare_stays : (s : List ℕ) → IsUtf8 s → is_blank_char (get_or s (length s - 1) 0) ≡ false → chars s ≡ trimmed (chars s)
bare_stays s u n = sym (kept_is (chars s) [] (bare_end s u n) tt) ∙ ap trimmed (append-nil (chars s))
