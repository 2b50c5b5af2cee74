-- A text is a number literal where the lexer passes a number, and is then at the text's end.
use Rattle.std.proofs.Common.{◌≡◌, ◌≢◌, ℕ, ◌<◌, Bool, true, false, not, List, [], ◌∷◌, ◌++◌, Some, None, refl, sym, ap, ◌∙◌, subst, inl, inr, arith}
use Rattle.std.proofs.lemmas.Bool.Decides.{nat_tests}
use Rattle.std.proofs.lemmas.List.{append-nil}
use Rattle.std.proofs.lemmas.Str.{chars-IsAscii, encodes-chars, encodes-IsAscii, IsAscii-append}
use Rattle.std.proofs.lemmas.Str.Ascii.{IsAscii-nil, IsAscii-cons}
use Rattle.std.specs.Char.{is_ascii_digit}
use Rattle.std.specs.Str.{chars, IsUtf8, IsAscii}
use Rattle.graphql_tokens.specs.tokens.Numbers.{AllDigits, AreDigits, is_minus, is_sign, is_e, IsOptional, IsWhole, IsFraction, IsExponent, IsNumber}
use Rattle.graphql_tokens.specs.inner.Numbers.{past_number}
use Rattle.graphql_tokens.specs.inner.Numerals.{is_numeral}
use Rattle.graphql_tokens.proofs.Numbers.{number_is, number_only}
use Rattle.graphql_tokens.proofs.Numerals.{is_numeral-is}
use Rattle.graphql_tokens.proofs.Options.{some_same}

-- ---- number literals are ASCII

digit_low : (c : ℕ) → is_ascii_digit c ≡ true → c < 128
digit_low c d = grind (arith, nat_tests)

minus_low : (c : ℕ) → is_minus c ≡ true → c < 128
minus_low c d = grind (arith, nat_tests)

sign_low : (c : ℕ) → is_sign c ≡ true → c < 128
sign_low c d = grind (arith, nat_tests)

e_low : (c : ℕ) → is_e c ≡ true → c < 128
e_low c d = grind (arith, nat_tests)

optional_ascii : (p : ℕ → Bool) → ((c : ℕ) → p c ≡ true → c < 128) → (w : List ℕ) → IsOptional p w → IsAscii w
optional_ascii p low w (inl none) = subst IsAscii (sym none) IsAscii-nil
optional_ascii p low w (inr one) = subst IsAscii (sym one.2) (IsAscii-cons one.0 [] (low one.0 one.1) IsAscii-nil)

all_ascii : (w : List ℕ) → AllDigits w → IsAscii w
all_ascii [] all = IsAscii-nil
all_ascii (c ∷ cs) all = IsAscii-cons c cs (digit_low c all.0) (all_ascii cs all.1)

digits_ascii : (w : List ℕ) → AreDigits w → IsAscii w
digits_ascii [] digits = absurd digits
digits_ascii (c ∷ cs) digits = all_ascii (c ∷ cs) digits

whole_ascii : (w : List ℕ) → IsWhole w → IsAscii w
whole_ascii [] whole = absurd whole
whole_ascii (c ∷ cs) (inl zero) = IsAscii-cons c cs (omega (arith, zero.0)) (subst IsAscii (sym zero.1) IsAscii-nil)
whole_ascii (c ∷ cs) (inr other) = all_ascii (c ∷ cs) (other.1, other.2)

fraction_ascii : (w : List ℕ) → IsFraction w → IsAscii w
fraction_ascii [] none = IsAscii-nil
fraction_ascii (c ∷ cs) fraction = IsAscii-cons c cs (omega (arith, fraction.0)) (digits_ascii cs fraction.1)

exponent_ascii : (w : List ℕ) → IsExponent w → IsAscii w
exponent_ascii [] none = IsAscii-nil
exponent_ascii (c ∷ cs) exponent =
    let parts = exponent.1 in
    let rest = IsAscii-append parts.0 parts.1 (optional_ascii is_sign sign_low parts.0 parts.3) (digits_ascii parts.1 parts.4) in
    IsAscii-cons c cs (e_low c exponent.0) (subst IsAscii (sym parts.2) rest)

number_ascii : (w : List ℕ) → IsNumber w → IsAscii w
number_ascii w n =
    let tail = IsAscii-append n.2 n.3 (fraction_ascii n.2 n.7) (exponent_ascii n.3 n.8) in
    let body = IsAscii-append n.1 (n.2 ++ n.3) (whole_ascii n.1 n.6) tail in
    subst IsAscii (sym n.4) (IsAscii-append n.0 (n.1 ++ (n.2 ++ n.3)) (optional_ascii is_minus minus_low n.0 n.5) body)

-- ---- what the lexer passes

not_true : (b : Bool) → (b ≡ true → ⊥) → false ≡ b
not_true true f = absurd (f refl)
not_true false f = refl

-- the characters of a number literal are its bytes
number_passes : (text : List ℕ) → IsNumber text → past_number (chars text) ≡ Some []
number_passes text n =
    ap past_number (chars-IsAscii text (number_ascii text n) ∙ sym (append-nil text)) ∙ number_only text [] n tt

number_found : (text : List ℕ) → IsUtf8 text → past_number (chars text) ≡ Some [] → IsNumber text
number_found text utf8 passed =
    let found = number_is (chars text) [] passed in
    let number : IsNumber (chars text) = subst IsNumber (sym (found.whole ∙ append-nil found.word)) found.number in
    let same : chars text ≡ text = sym (encodes-IsAscii (chars text) (number_ascii (chars text) number)) ∙ encodes-chars text utf8 in
    subst IsNumber same number

pub number_passed : (text rest : List ℕ) (is_more : Bool) → IsUtf8 text → past_number (chars text) ≡ Some rest
    → (is_more ≡ true → rest ≢ []) → (is_more ≡ false → rest ≡ []) → not is_more ≡ is_numeral text
number_passed text rest true utf8 is more ends =
    not_true (is_numeral text) (λ numeral. more refl (some_same rest [] (sym is ∙ number_passes text ((is_numeral-is text).0 numeral))))
number_passed text rest false utf8 is more ends =
    sym ((is_numeral-is text).1 (number_found text utf8 (is ∙ ap (λ r. Some r) (ends refl))))

pub number_missed : (text : List ℕ) → past_number (chars text) ≡ None → false ≡ is_numeral text
number_missed text is =
    not_true (is_numeral text) (λ numeral. let passes = sym is ∙ number_passes text ((is_numeral-is text).0 numeral) in cc)
