-- The parts of a number, one after the other, and what is told of those that are cut short.
use Rattle.std.proofs.Common.{◌≡◌, ◌≢◌, ◌⊎◌, inl, inr, ℕ, ◌<◌, Bool, true, false, ◌&&◌, ◌||◌, List, [], ◌∷◌, ◌++◌, None, Result, Ok, Err, length, refl, sym, ap, ◌∙◌, append_assoc, length-append, arith}
use Rattle.std.specs.Prelude.{◌==◌, if◌then◌else◌, IfOk, codes}
use Rattle.std.specs.Char.{encode_utf8, is_ascii_digit}
use Rattle.std.specs.Str.{chars, IsUtf8, encode_utf8_all}
use Rattle.std.specs.declared.str.Chars.{Chars}
use Rattle.std.specs.Str.Iter.{chars_rest, chars_steps}
use Rattle.std.proofs.lemmas.Bool.Decides.{nat_tests}
use Rattle.std.proofs.lemmas.List.{nil_from_length}
use Rattle.std.proofs.lemmas.Str.{chars-nil, encodes-append, encodes-chars, length-le-encodes}
use Rattle.graphql_tokens.specs.tokens.Numbers.{AllDigits, AreDigits, is_e, is_sign, IsExponent, IsFraction, IsOptional, IsWhole}
use Rattle.graphql_report.specs.inner.Strings.{HasBareExponent, HasBarePoint, IsAfter}
use Rattle.graphql_report.specs.reports.Faults.{begins_with_digit, begins_other_row, digit_after_dots, has_leading_zero, IsToldOfDigits, bare_point, bare_exponent, follower, whole_number, IsToldOfFault, leading_point, dots}

-- ---- one character

pub no-char : (text : List ℕ) (old new : Chars) → chars_rest old ≡ text → chars_steps old None new → chars text ≡ []
no-char text old new e h = ap chars (sym e ∙ nil_from_length (chars_rest old) h.0.0) ∙ chars-nil

pub shorter-one : (rest after : List ℕ) (c : ℕ) → IsUtf8 rest → IsUtf8 after → chars rest ≡ c ∷ chars after → length after < length rest
shorter-one rest after c u v e =
    let bytes : rest ≡ encode_utf8_all (c ∷ []) ++ after = sym (encodes-chars rest u) ∙ ap encode_utf8_all e ∙ encodes-append (c ∷ []) (chars after) ∙ ap (λ (l : List ℕ). encode_utf8_all (c ∷ []) ++ l) (encodes-chars after v) in
    omega (arith, ap length bytes, length-append (encode_utf8_all (c ∷ [])) after, length-le-encodes (c ∷ []))

-- ---- dots

pub after-dot : (text rest : List ℕ) (c : ℕ) → text ≡ c ∷ rest → c ≡ 46 → digit_after_dots text ≡ digit_after_dots rest
after-dot text rest c e dot = ap digit_after_dots (e ∙ ap (λ (x : ℕ). x ∷ rest) dot)

-- ---- digits

pub digits-begun : (text : List ℕ) → IsAfter AllDigits text text
digits-begun text = ([], tt, refl)

digit-more : (front : List ℕ) (c : ℕ) → AllDigits front → is_ascii_digit c ≡ true → AllDigits (front ++ c ∷ [])
digit-more [] c all is = (is, tt)
digit-more (d ∷ front) c all is = (all.0, digit-more front c all.1 is)

pub digits-next : (text rest after : List ℕ) (c : ℕ) → IsAfter AllDigits text rest → rest ≡ c ∷ after → is_ascii_digit c ≡ true → IsAfter AllDigits text after
digits-next text rest after c (front, all, e) is digit = (front ++ c ∷ [], digit-more front c all digit, e ∙ ap (λ (l : List ℕ). front ++ l) is ∙ sym (append_assoc front (c ∷ []) after))

pub first-digit : (text rest : List ℕ) (c : ℕ) (b : Bool) → text ≡ c ∷ rest → is_ascii_digit c ≡ b → begins_with_digit text ≡ b
first-digit text rest c b e is = ap begins_with_digit e ∙ is

pub first-none : (text : List ℕ) → text ≡ [] → begins_with_digit text ≡ false
first-none text e = ap begins_with_digit e

are-digits : (text rest : List ℕ) → begins_with_digit text ≡ true → IsAfter AllDigits text rest → begins_with_digit rest ≡ false → IsAfter AreDigits text rest
are-digits text rest some ([], all, e) none = let clash : true ≡ false = sym some ∙ ap begins_with_digit e ∙ none in absurd cc
are-digits text rest some (c ∷ front, all, e) none = (c ∷ front, all, e)

-- ---- parts

pub whole-read : (text rest : List ℕ) → begins_with_digit text ≡ true → has_leading_zero text ≡ false → IsAfter AllDigits text rest → begins_with_digit rest ≡ false → IsAfter IsWhole text rest
whole-read text rest some zero ([], all, e) none = let clash : true ≡ false = sym some ∙ ap begins_with_digit e ∙ none in absurd cc
whole-read text rest some zero (c ∷ [], all, e) none = go (c == 48) refl
  where
    go : (b : Bool) → (c == 48) ≡ b → IsAfter IsWhole text rest
    go true is = (c ∷ [], inl (grind (arith, nat_tests), refl), e)
    go false is = (c ∷ [], inr (is, all.0, tt), e)
whole-read text rest some zero (c ∷ d ∷ front, all, e) none = go (c == 48) refl
  where
    go : (b : Bool) → (c == 48) ≡ b → IsAfter IsWhole text rest
    go true is = let clash : true ≡ false = sym (ap has_leading_zero e ∙ ap (λ (b : Bool). b && is_ascii_digit d) is ∙ all.1.0) ∙ zero in absurd cc
    go false is = (c ∷ d ∷ front, inr (is, all.0, all.1), e)

pub no-fraction : (text : List ℕ) → IsAfter IsFraction text text
no-fraction text = ([], tt, refl)

pub fraction-read : (text digits rest : List ℕ) (c : ℕ) → text ≡ c ∷ digits → c ≡ 46 → begins_with_digit digits ≡ true → IsAfter AllDigits digits rest → begins_with_digit rest ≡ false → IsAfter IsFraction text rest
fraction-read text digits rest c e is some after none =
    let read = are-digits digits rest some after none in
    (c ∷ read.0, (is, read.1), e ∙ ap (λ (l : List ℕ). c ∷ l) read.2)

pub bare-point : (text digits : List ℕ) (c : ℕ) → text ≡ c ∷ digits → c ≡ 46 → begins_with_digit digits ≡ false → HasBarePoint text
bare-point text digits c e is none = (digits, e ∙ ap (λ (x : ℕ). x ∷ digits) is, none)

pub no-exponent : (text : List ℕ) → IsAfter IsExponent text text
no-exponent text = ([], tt, refl)

pub exponent-read : (text after digits rest : List ℕ) (c : ℕ) → text ≡ c ∷ after → is_e c ≡ true → IsAfter (IsOptional is_sign) after digits → begins_with_digit digits ≡ true → IsAfter AllDigits digits rest → begins_with_digit rest ≡ false → IsAfter IsExponent text rest
exponent-read text after digits rest c e is sign some all none =
    let read = are-digits digits rest some all none in
    (c ∷ (sign.0 ++ read.0), (is, (sign.0, read.0, refl, sign.1, read.1)), e ∙ ap (λ (l : List ℕ). c ∷ l) (sign.2 ∙ ap (λ (l : List ℕ). sign.0 ++ l) read.2 ∙ sym (append_assoc sign.0 read.0 rest)))

pub bare-exponent : (text after digits : List ℕ) (c : ℕ) → text ≡ c ∷ after → is_e c ≡ true → IsAfter (IsOptional is_sign) after digits → begins_with_digit digits ≡ false → HasBareExponent text
bare-exponent text after digits c e is sign none = (c, sign.0, digits, is, sign.1, e ∙ ap (λ (l : List ℕ). c ∷ l) sign.2, none)

-- ---- what is told

pub told-ok : {A E : Type 0} (bytes : A → List ℕ) (result : Result A E) (P : List ℕ → Type 0) (words : List ℕ) → IfOk result (λ x. bytes x ≡ words) → ((told : List ℕ) → told ≡ words → P told) → IfOk result (λ x. P (bytes x))
told-ok bytes (Ok x) P words is f = f (bytes x) is
told-ok bytes (Err refused) P words is f = tt

pub also-ok : {A E : Type 0} (bytes : A → List ℕ) (result : Result A E) (P Q : List ℕ → Type 0) → IfOk result (λ x. P (bytes x)) → ((told : List ℕ) → P told → Q told) → IfOk result (λ x. Q (bytes x))
also-ok bytes (Ok x) P Q is f = f (bytes x) is
also-ok bytes (Err refused) P Q is f = tt

pub for-value : {A E : Type 0} (result : Result A E) (P : Bool → A → Type 0) (value : Bool) → IfOk result (λ x. (b : Bool) → P b x) → IfOk result (λ x. P value x)
for-value (Ok x) P value is = is value
for-value (Err refused) P value is = tt

pub point-told : (text rest told : List ℕ) → IsAfter IsWhole text rest → HasBarePoint rest → told ≡ codes "a digit has to follow the point of a number" → IsToldOfDigits text told
point-told text rest told (whole, is, e) (after, at, none) words = bare_point whole after is (e ∙ ap (λ (l : List ℕ). whole ++ l) at) none words

pub exponent-told : (text rest after told : List ℕ) → IsAfter IsWhole text rest → IsAfter IsFraction rest after → HasBareExponent after → told ≡ codes "the exponent of a number has to have a digit" → IsToldOfDigits text told
exponent-told text rest after told (whole, is, e) (fraction, also, f) (x, sign, more, is_x, is_sign_x, at, none) words =
    bare_exponent whole fraction sign more x is also is_x is_sign_x (e ∙ ap (λ (l : List ℕ). whole ++ l) (f ∙ ap (λ (l : List ℕ). fraction ++ l) at)) none words

pub follower-told : (text first second third rest told : List ℕ) (c : ℕ) → IsAfter IsWhole text first → IsAfter IsFraction first second → IsAfter IsExponent second third → third ≡ c ∷ rest → told ≡ encode_utf8 c ++ codes " may not follow a number at once" → IsToldOfDigits text told
follower-told text first second third rest told c (whole, is, e) (fraction, also, f) (exponent, too, g) h words =
    follower whole fraction exponent rest c is also too (e ∙ ap (λ (l : List ℕ). whole ++ l) (f ∙ ap (λ (l : List ℕ). fraction ++ l) (g ∙ ap (λ (l : List ℕ). exponent ++ l) h))) words

pub number-told : (text first second third told : List ℕ) → IsAfter IsWhole text first → IsAfter IsFraction first second → IsAfter IsExponent second third → third ≡ [] → told ≡ codes "this is no number" → IsToldOfDigits text told
number-told text first second third told (whole, is, e) (fraction, also, f) (exponent, too, g) h words =
    whole_number whole fraction exponent is also too (e ∙ ap (λ (l : List ℕ). whole ++ l) (f ∙ ap (λ (l : List ℕ). fraction ++ l) (g ∙ ap (λ (l : List ℕ). exponent ++ l) h))) words

-- ---- other rows

pub dots-told : (value : Bool) (text rest told : List ℕ) → text ≡ 46 ∷ rest
    → told ≡ (if value && digit_after_dots text then codes "a digit has to stand before the point of a number" else codes "a spread is written with three dots") → IsToldOfFault value text told
dots-told value text rest told e words = go (value && digit_after_dots text) refl
  where
    go : (b : Bool) → (value && digit_after_dots text) ≡ b → IsToldOfFault value text told
    go true is = leading_point rest e is (words ∙ ap (λ (b : Bool). if b then codes "a digit has to stand before the point of a number" else codes "a spread is written with three dots") is)
    go false is = dots rest e is (words ∙ ap (λ (b : Bool). if b then codes "a digit has to stand before the point of a number" else codes "a spread is written with three dots") is)

differs : (c n : ℕ) → c ≢ n → (c == n) ≡ false
differs c n other = go (c == n) refl
  where
    go : (b : Bool) → (c == n) ≡ b → (c == n) ≡ false
    go true is = absurd (other (grind (arith, nat_tests)))
    go false is = is

pub no-plus : (value : Bool) (c : ℕ) → (value ≡ false) ⊎ (c ≢ 43) → (value && c == 43) ≡ false
no-plus value c (inl none) = ap (λ (b : Bool). b && c == 43) none
no-plus true c (inr other) = differs c 43 other
no-plus false c (inr other) = refl

pub no-other-row : (value : Bool) (c : ℕ) → (c == 34) ≡ false → (c == 45) ≡ false → c ≢ 46 → (value && c == 43) ≡ false → is_ascii_digit c ≡ false → begins_other_row value c ≡ false
no-other-row value c quote minus dot plus digit =
    ap (λ (b : Bool). b || c == 46 || c == 45 || (value && c == 43) || is_ascii_digit c) quote
    ∙ ap (λ (b : Bool). b || c == 45 || (value && c == 43) || is_ascii_digit c) (differs c 46 dot)
    ∙ ap (λ (b : Bool). b || (value && c == 43) || is_ascii_digit c) minus
    ∙ ap (λ (b : Bool). b || is_ascii_digit c) plus
    ∙ digit
