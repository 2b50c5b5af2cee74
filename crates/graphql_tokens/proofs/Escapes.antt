-- Escapes, read by the function and by the relation.
use Rattle.std.proofs.Common.{◌≡◌, ◌≢◌, ℕ, ◌+◌, ◌*◌, ◌^◌, suc, ◌<◌, Bool, true, false, cond, eqb, ◌&&◌, min, List, [], ◌∷◌, ◌++◌, Some, None, length, take, drop, get_or, refl, ap, ◌∙◌, arith, length-append}
use Rattle.std.proofs.Math.Nat.{pow-suc}
use Rattle.std.proofs.lemmas.Bool.Decides.{nat_tests}
use Rattle.std.proofs.lemmas.List.{take_more}
use Rattle.std.specs.Char.{is_ascii_hexdigit, digit_value}
use Rattle.graphql_tokens.specs.tokens.Strings.{hex_value}
use Rattle.graphql_tokens.specs.inner.Escapes.{four_digits, scalar_of, braced_at, pair_at, numbered_by, numbered_at, number_at}

-- ---- numbers in hexadecimal digits

-- one digit more at the end
hex_value-push : (ds : List ℕ) (d : ℕ) → hex_value (ds ++ d ∷ []) ≡ hex_value ds * 16 + digit_value d
hex_value-push [] d = omega arith
hex_value-push (x ∷ xs) d =
    let long : length (xs ++ d ∷ []) ≡ suc (length xs) = omega (arith, length-append xs (d ∷ [])) in
    let weight : 16 ^ length (xs ++ d ∷ []) ≡ 16 ^ length xs * 16 = ap (λ k. 16 ^ k) long ∙ pow-suc 16 (length xs) in
    omega (arith, ap (λ k. digit_value x * k) weight, hex_value-push xs d)

pub hex_value_more : (ds : List ℕ) (i : ℕ) → i < length ds → hex_value (take (i + 1) ds) ≡ hex_value (take i ds) * 16 + digit_value (get_or ds i 0)
hex_value_more ds i l = ap hex_value (take_more ds i 0 l) ∙ hex_value-push (take i ds) (get_or ds i 0)

pub capped : (x d m : ℕ) → min (min x m * 16 + d) m ≡ min (x * 16 + d) m
capped x d m = omega arith

pub hex_digit : (c : ℕ) → digit_value c < 16 → is_ascii_hexdigit c ≡ true
hex_digit c h = grind (arith, nat_tests)

pub hex_digit_only : (c : ℕ) → is_ascii_hexdigit c ≡ true → digit_value c < 16
hex_digit_only c h = grind (arith, nat_tests)

pub both_true : (a b : Bool) → a ≡ true → b ≡ true → (a && b) ≡ true
both_true a b e f = rw (e, f) refl

-- ---- what the code reads

pub number_at_pair : (text : List ℕ) (n : ℕ) → get_or text 0 0 ≢ 123 → four_digits text ≡ Some n → scalar_of n ≡ None → number_at text ≡ pair_at n (drop 4 text)
number_at_pair text n other digits none =
    let f : eqb (get_or text 0 0) 123 ≡ false = grind (arith, nat_tests) in
    ap (λ b. cond b (braced_at (drop 1 text)) (numbered_at (four_digits text) (drop 4 text))) f
    ∙ ap (λ o. numbered_at o (drop 4 text)) digits
    ∙ ap (λ o. numbered_by n o (drop 4 text)) none
