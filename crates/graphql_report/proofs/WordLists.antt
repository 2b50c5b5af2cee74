-- Lists of what is expected, as they are told.
use Rattle.std.proofs.Common.{◌≡◌, ◌<◌, ◌≤◌, ◌+◌, ◌==◌, ℕ, Bool, true, false, ◌-◌, ◌^◌, ◌⊎◌, inl, inr, length, length-drop, drop, get_or, arith, ◌||◌, if◌then◌else◌, List, [], ◌∷◌, ◌++◌, map, take, refl, sym, ap, ◌∙◌, append_assoc, append-nil, length-append}
use Rattle.std.proofs.lemmas.Bool.{cases_lt}
use Rattle.std.proofs.lemmas.Bool.Decides.{nat_tests}
use Rattle.std.proofs.lemmas.List.{take-append-drop, drop_all, drop_more, length-map, map-append}
use Rattle.std.proofs.lemmas.Str.{encodes-append, encodes-chars, length-le-encodes}
use Rattle.std.specs.Prelude.{codes, min, nat_lt}
use Rattle.std.specs.Str.{chars, encode_utf8_all, IsUtf8}
use Rattle.std.specs.Char.{encode_utf8}
use Rattle.std.specs.Borrow.{Bor}
use Rattle.std.specs.List.{list_any}
use Rattle.graphql_tokens.specs.tokens.Token.{Bare}
use Rattle.graphql_report.specs.inner.Called.{texts}
use Rattle.graphql_report.specs.reports.Words.{cut, exception, expected_of, or_others, shown_for}

pub any-of-texts : (p : List ℕ → Bool) (names : List (Bor (List ℕ))) → list_any (λ (name : Bor (List ℕ)). p name.now) names ≡ list_any p (texts names)
any-of-texts p [] = refl
any-of-texts p (name ∷ names) = ap (λ b. p name.now || b) (any-of-texts p names)

-- how one is told
abbrev pub told_as : Bool → Bare → List ℕ → List ℕ
told_as exact t name = name ++ (if exact then [] else exception t name)

-- ---- what is shown of a token

-- one character more
pub shown-more : (front : List ℕ) (c shown : ℕ) → shown ≡ shown_for c → encode_utf8_all (map shown_for (front ++ c ∷ [])) ≡ encode_utf8_all (map shown_for front) ++ encode_utf8 shown
shown-more front c shown is =
    ap encode_utf8_all (map-append shown_for front (c ∷ [])) ∙ encodes-append (map shown_for front) (shown_for c ∷ [])
    ∙ ap (λ (l : List ℕ). encode_utf8_all (map shown_for front) ++ l) (append-nil (encode_utf8 (shown_for c)) ∙ ap encode_utf8 (sym is))

pub bytes-more : (front : List ℕ) (c : ℕ) → length (encode_utf8_all (front ++ c ∷ [])) ≡ length (encode_utf8_all front) + length (encode_utf8 c)
bytes-more front c = ap (λ (l : List ℕ). length l) (encodes-append front (c ∷ [])) ∙ length-append (encode_utf8_all front) (encode_utf8_all (c ∷ [])) ∙ ap (λ (l : List ℕ). length (encode_utf8_all front) + length l) (append-nil (encode_utf8 c))

less : (n : ℕ) → 30 < n → nat_lt 30 n ≡ true
less n h = grind (arith, nat_tests)

not-less : (n : ℕ) → n ≤ 30 → nat_lt 30 n ≡ false
not-less n h = grind (arith, nat_tests)

-- the first thirty of these take as many bytes as all, where there are no more
pub cut-all : (text front : List ℕ) → front ≡ take 30 (chars text) → length (chars text) ≤ 30 → cut text ≡ encode_utf8_all (map shown_for front)
cut-all text front is few =
    ap (λ (b : Bool). encode_utf8_all (map shown_for (take 30 (chars text))) ++ (if b then codes "..." else [])) (not-less (length (chars text)) few)
    ∙ append-nil (encode_utf8_all (map shown_for (take 30 (chars text))))
    ∙ ap (λ (l : List ℕ). encode_utf8_all (map shown_for l)) (sym is)

pub cut-some : (text front : List ℕ) → front ≡ take 30 (chars text) → 30 < length (chars text) → cut text ≡ encode_utf8_all (map shown_for front) ++ codes "..."
cut-some text front is more =
    ap (λ (b : Bool). encode_utf8_all (map shown_for (take 30 (chars text))) ++ (if b then codes "..." else [])) (less (length (chars text)) more)
    ∙ ap (λ (l : List ℕ). encode_utf8_all (map shown_for l) ++ codes "...") (sym is)

-- whether there are more shows in the bytes
all-bytes : (text front : List ℕ) → IsUtf8 text → front ≡ take 30 (chars text) → length text ≡ length (encode_utf8_all front) + length (encode_utf8_all (drop 30 (chars text)))
all-bytes text front utf8 is =
    ap (λ (l : List ℕ). length l) (sym (encodes-chars text utf8) ∙ ap encode_utf8_all (sym (take-append-drop 30 (chars text))) ∙ encodes-append (take 30 (chars text)) (drop 30 (chars text)))
    ∙ length-append (encode_utf8_all (take 30 (chars text))) (encode_utf8_all (drop 30 (chars text)))
    ∙ ap (λ (l : List ℕ). length (encode_utf8_all l) + length (encode_utf8_all (drop 30 (chars text)))) (sym is)

pub many-bytes : (text front : List ℕ) (passed : ℕ) → length text < 2 ^ 63 → IsUtf8 text → front ≡ take 30 (chars text) → passed ≡ min (length (encode_utf8_all front)) (2 ^ 64 - 1) → passed < length text → 30 < length (chars text)
many-bytes text front passed short utf8 is e before = by (cases_lt 30 (length (chars text)))
  where
    by : (30 < length (chars text)) ⊎ (length (chars text) ≤ 30) → 30 < length (chars text)
    by (inl more) = more
    by (inr few) =
        let none : drop 30 (chars text) ≡ [] = drop_all 30 (chars text) few in
        let bytes : length (encode_utf8_all (drop 30 (chars text))) ≡ 0 = ap (λ (l : List ℕ). length (encode_utf8_all l)) none in
        absurd (omega (arith, all-bytes text front utf8 is, bytes, e, before, short))

pub few-bytes : (text front : List ℕ) (passed : ℕ) → IsUtf8 text → front ≡ take 30 (chars text) → passed ≡ min (length (encode_utf8_all front)) (2 ^ 64 - 1) → length text ≤ passed → length (chars text) ≤ 30
few-bytes text front passed utf8 is e past =
    omega (arith, all-bytes text front utf8 is, e, past, length-le-encodes (drop 30 (chars text)), length-drop 30 (chars text))

-- ---- lists

-- what is told of the rest of a list, which is the whole of it or isn't
abbrev pub told_from : (List ℕ → List ℕ) → Bool → List (List ℕ) → List ℕ
told_from told true names = expected_of told names
told_from told false names = or_others told names

-- what stands before the first of these
abbrev words_before : Bool → Bool → List ℕ
words_before first last = if first then codes ", expected " else (if last then codes " or " else codes ", ")

one-told : (told : List ℕ → List ℕ) (first last : Bool) (name : List ℕ) (rest : List (List ℕ)) → (last ≡ true → length rest ≡ 0) → (last ≡ false → 0 < length rest) → told_from told first (name ∷ rest) ≡ words_before first last ++ (told name ++ or_others told rest)
one-told told true last name rest none some = refl
one-told told false true name [] none some = ap (λ (l : List ℕ). codes " or " ++ l) (sym (append-nil (told name)))
one-told told false true name (second ∷ more) none some = absurd (omega (arith, none refl))
one-told told false false name [] none some = absurd (omega (arith, some refl))
one-told told false false name (second ∷ more) none some = refl

pub next-told : (told : List ℕ → List ℕ) (names : List (Bor (List ℕ))) (k : ℕ) (d : Bor (List ℕ)) (out before one two all : List ℕ) → k < length names → out ++ told_from told (k == 0) (texts (drop k names)) ≡ all → before ≡ words_before (k == 0) (k + 1 == length names) → one ≡ out ++ before → two ≡ one ++ told (get_or names k d).now
    → two ++ told_from told (k + 1 == 0) (texts (drop (k + 1) names)) ≡ all
next-told told names k d out before one two all h is words e f =
    let name : List ℕ = (get_or names k d).now in
    let rest : List (List ℕ) = texts (drop (k + 1) names) in
    let size : length rest ≡ length names - (k + 1) = length-map (drop (k + 1) names) (λ (n : Bor (List ℕ)). n.now) ∙ length-drop (k + 1) names in
    let never : (k + 1 == 0) ≡ false = grind (arith, nat_tests) in
    let others : List ℕ = or_others told rest in
    ap (λ (b : Bool). two ++ told_from told b rest) never
    ∙ ap (λ (l : List ℕ). l ++ others) (f ∙ ap (λ (l : List ℕ). l ++ told name) (e ∙ ap (λ (l : List ℕ). out ++ l) words))
    ∙ append_assoc (out ++ words_before (k == 0) (k + 1 == length names)) (told name) others
    ∙ append_assoc out (words_before (k == 0) (k + 1 == length names)) (told name ++ others)
    ∙ ap (λ (l : List ℕ). out ++ l) (sym (one-told told (k == 0) (k + 1 == length names) name rest (λ last. grind (arith, nat_tests, last, size)) (λ more. grind (arith, nat_tests, more, size, h))))
    ∙ ap (λ (l : List (Bor (List ℕ))). out ++ told_from told (k == 0) (texts l)) (sym (drop_more names k d h))
    ∙ is

none-told : (told : List ℕ → List ℕ) (first : Bool) → told_from told first [] ≡ []
none-told told true = refl
none-told told false = refl

pub all-told : (told : List ℕ → List ℕ) (names : List (Bor (List ℕ))) (k : ℕ) (out all : List ℕ) → length names ≤ k → out ++ told_from told (k == 0) (texts (drop k names)) ≡ all → out ≡ all
all-told told names k out all h is =
    sym (append-nil out) ∙ ap (λ (l : List ℕ). out ++ l) (sym (none-told told (k == 0))) ∙ ap (λ (l : List (Bor (List ℕ))). out ++ told_from told (k == 0) (texts l)) (sym (drop_all k names h)) ∙ is
