-- The string that stands for a text means that text, in each edition.
use Rattle.std.proofs.Common.{◌≡◌, ◌≢◌, ℕ, zero, suc, ◌<◌, ◌/◌, ◌%◌, Bool, true, false, cond, ◌&&◌, ◌⊎◌, eqb, ltb, List, [], ◌∷◌, ◌++◌, map, Option, Some, None, inl, inr, codes, refl, sym, ap, ◌∙◌, subst, arith, eqb-true, ltb-true}
use Rattle.std.proofs.lemmas.Bool.Decides.{eqb_tells}
use Rattle.std.specs.List.{concat}
use Rattle.std.specs.Char.{digit_char, is_ascii_hexdigit}
use lib.Utf8.{scalar}
use Rattle.graphql_tokens.specs.tokens.Edition.{Edition}
use Rattle.graphql_tokens.specs.tokens.Strings.{Escape, quote, backslash, line_feed, carriage_return, tab, backspace, form_feed, hex_value, UnitMeans, UnitsMean, StringMeans}
use Rattle.graphql_syntax.specs.trees.ValueText.{unit_with, unit_for, content_for}

-- ---- what is tested of each number below another holds of it

all_below : (ℕ → Bool) → ℕ → Bool
all_below p zero = true
all_below p (suc n) = p n && all_below p n

both : (a b : Bool) → (a && b) ≡ true → (a ≡ true) × (b ≡ true)
both true b e = (refl, e)
both false b e = absurd cc

below : (p : ℕ → Bool) (n c : ℕ) → all_below p n ≡ true → c < n → p c ≡ true
unfolding all_below
below p zero c e l = absurd (omega arith)
below p (suc n) c e l =
    let holds = both (p n) (all_below p n) e in
    go (eqb_tells c n) holds.0 (λ less. below p n c holds.1 less)
  where
    go : ((eqb c n ≡ true) × (c ≡ n)) ⊎ ((eqb c n ≡ false) × (c ≢ n)) → p n ≡ true → (c < n → p c ≡ true) → p c ≡ true
    go (inl same) here earlier = ap p same.1 ∙ here
    go (inr other) here earlier = let apart : c ≢ n = other.1 in earlier (omega arith)

-- ---- one character

abbrev Meant : Edition → ℕ → Option ℕ → Type 0
Meant edition c letter = UnitMeans edition (unit_with c letter) c

-- a character that has this letter, or else another or none
choose : (edition : Edition) (c k letter : ℕ) (others : Option ℕ) → Escape letter k → (eqb c k ≡ false → Meant edition c others) → Meant edition c (cond (eqb c k) (Some letter) others)
choose edition c k letter others escape more = go (eqb c k) refl
  where
    go : (b : Bool) → eqb c k ≡ b → Meant edition c (cond b (Some letter) others)
    go true is = inr (inl (letter, refl, subst (Escape letter) (sym (eqb-true c k is)) escape))
    go false is = more is

-- the two digits of a control character, and the number that they write
high_passes : ℕ → Bool
high_passes c = is_ascii_hexdigit (digit_char (c / 16))

low_passes : ℕ → Bool
low_passes c = is_ascii_hexdigit (digit_char (c % 16))

number_passes : ℕ → Bool
number_passes c = eqb (hex_value (48 ∷ 48 ∷ digit_char (c / 16) ∷ digit_char (c % 16) ∷ [])) c

high_is : (c : ℕ) → c < 32 → is_ascii_hexdigit (digit_char (c / 16)) ≡ true
unfolding high_passes all_below
high_is c l = below high_passes 32 c refl l

low_is : (c : ℕ) → c < 32 → is_ascii_hexdigit (digit_char (c % 16)) ≡ true
unfolding low_passes all_below
low_is c l = below low_passes 32 c refl l

number_is : (c : ℕ) → c < 32 → hex_value (48 ∷ 48 ∷ digit_char (c / 16) ∷ digit_char (c % 16) ∷ []) ≡ c
unfolding number_passes all_below
number_is c l = eqb-true _ c (below number_passes 32 c refl l)

-- a character without a letter
plain : (edition : Edition) (c : ℕ) → eqb c 34 ≡ false → eqb c 92 ≡ false → eqb c 10 ≡ false → eqb c 13 ≡ false → Meant edition c None
unfolding all_below
plain edition c no-quote no-backslash no-feed no-return = go (ltb c 32) refl
  where
    go : (b : Bool) → ltb c 32 ≡ b → UnitMeans edition (cond b (codes "\\u00" ++ (digit_char (c / 16) ∷ digit_char (c % 16) ∷ [])) (c ∷ [])) c
    go true is =
        let low : c < 32 = ltb-true c 32 is in
        inr (inr (inl ((48 ∷ 48 ∷ digit_char (c / 16) ∷ digit_char (c % 16) ∷ [], refl, refl, (refl, (refl, (high_is c low, (low_is c low, tt)))), number_is c low), below scalar 32 c refl low)))
    go false is = inl (refl, rw (no-quote, no-backslash, no-feed, no-return) refl)

unit_means : (edition : Edition) (c : ℕ) → UnitMeans edition (unit_for c) c
unit_means edition c =
    choose edition c 34 34 _ quote (λ no-quote.
    choose edition c 92 92 _ backslash (λ no-backslash.
    choose edition c 10 110 _ line_feed (λ no-feed.
    choose edition c 13 114 _ carriage_return (λ no-return.
    choose edition c 9 116 _ tab (λ _.
    choose edition c 8 98 _ backspace (λ _.
    choose edition c 12 102 _ form_feed (λ _. plain edition c no-quote no-backslash no-feed no-return)))))))

-- ---- whole contents

units_mean : (edition : Edition) (cs : List ℕ) → UnitsMean edition (map unit_for cs) cs
units_mean edition [] = tt
units_mean edition (c ∷ cs) = (unit_means edition c, units_mean edition cs)

joined : (cs : List ℕ) → content_for cs ≡ concat (map unit_for cs)
joined [] = refl
joined (c ∷ cs) = ap (λ (rest : List ℕ). unit_for c ++ rest) (joined cs)

pub content_means : (edition : Edition) (cs : List ℕ) → StringMeans edition (content_for cs) cs
content_means edition cs = (map unit_for cs, joined cs, units_mean edition cs)
