-- What is printed of a text as a string means that text, and has no control character.
use Rattle.std.proofs.Common.{◌≡◌, ◌≢◌, ℕ, zero, suc, ◌<◌, ◌/◌, ◌%◌, Bool, true, false, not, cond, ◌&&◌, ◌⊎◌, eqb, nat_lt, List, [], ◌∷◌, ◌++◌, map, Option, Some, None, inl, inr, codes, refl, sym, ap, ◌∙◌, subst, arith, eqb-true, append-nil}
use Rattle.std.proofs.lemmas.Bool.Decides.{eqb_tells, nat_tests}
use Rattle.std.proofs.lemmas.List.Folds.{list_all-append}
use Rattle.std.specs.List.{concat, list_all, AllByRecursion}
use Rattle.std.specs.Map.{lookup}
use Rattle.std.specs.Char.{digit_char, is_ascii_hexdigit, is_control}
use lib.Utf8.{scalar}
use Rattle.graphql_tokens.specs.tokens.Edition.{Edition}
use Rattle.graphql_tokens.specs.tokens.Strings.{hex_value, UnitMeans, UnitsMean, StringMeans}
use Rattle.graphql_syntax.specs.trees.ValueText.{letters, escape_letter, unit_with as plain_with, unit_for as plain_for, content_for as plain_content}
use Rattle.graphql_syntax.proofs.StringTexts.{content_means as plain_means}
use Rattle.graphql_printer.specs.inner.Strings.{hex_digit, unit_with, unit_for, content_for}

-- ---- what is tested of each number below another holds of it

unfoldable pub all_below : (ℕ → Bool) → ℕ → Bool
all_below p zero = true
all_below p (suc n) = p n && all_below p n

both : (a b : Bool) → (a && b) ≡ true → (a ≡ true) × (b ≡ true)
both true b e = (refl, e)
both false b e = absurd cc

pub below : (p : ℕ → Bool) (n c : ℕ) → all_below p n ≡ true → c < n → p c ≡ true
unfolding all_below
below p zero c e l = absurd (omega arith)
below p (suc n) c e l =
    let holds = both (p n) (all_below p n) e in
    go (eqb_tells c n) holds.0 (λ less. below p n c holds.1 less)
  where
    go : ((eqb c n ≡ true) × (c ≡ n)) ⊎ ((eqb c n ≡ false) × (c ≢ n)) → p n ≡ true → (c < n → p c ≡ true) → p c ≡ true
    go (inl same) here earlier = ap p same.1 ∙ here
    go (inr other) here earlier = let apart : c ≢ n = other.1 in earlier (omega arith)

pub control_below : (c : ℕ) → is_control c ≡ true → c < 160
control_below c e = grind (arith, nat_tests)

-- ---- the digits of a control character

high_passes : ℕ → Bool
high_passes c = is_ascii_hexdigit (hex_digit (c / 16)) && not (is_control (hex_digit (c / 16)))

low_passes : ℕ → Bool
low_passes c = is_ascii_hexdigit (hex_digit (c % 16)) && not (is_control (hex_digit (c % 16)))

number_passes : ℕ → Bool
number_passes c = eqb (hex_value (48 ∷ 48 ∷ hex_digit (c / 16) ∷ hex_digit (c % 16) ∷ [])) c

high_is : (c : ℕ) → c < 160 → (is_ascii_hexdigit (hex_digit (c / 16)) ≡ true) × (not (is_control (hex_digit (c / 16))) ≡ true)
unfolding high_passes all_below
high_is c l = both (is_ascii_hexdigit (hex_digit (c / 16))) (not (is_control (hex_digit (c / 16)))) (below high_passes 160 c refl l)

low_is : (c : ℕ) → c < 160 → (is_ascii_hexdigit (hex_digit (c % 16)) ≡ true) × (not (is_control (hex_digit (c % 16))) ≡ true)
unfolding low_passes all_below
low_is c l = both (is_ascii_hexdigit (hex_digit (c % 16))) (not (is_control (hex_digit (c % 16)))) (below low_passes 160 c refl l)

number_is : (c : ℕ) → c < 160 → hex_value (48 ∷ 48 ∷ hex_digit (c / 16) ∷ hex_digit (c % 16) ∷ []) ≡ c
unfolding number_passes all_below
number_is c l = eqb-true _ c (below number_passes 160 c refl l)

is_scalar : (c : ℕ) → c < 160 → scalar c ≡ true
unfolding all_below
is_scalar c l = below scalar 160 c refl l

-- ---- one character

-- the unit that a value's text has for it means it
plain_unit : (edition : Edition) (c : ℕ) → UnitMeans edition (plain_for c) c
plain_unit edition c = go (plain_means edition (c ∷ []))
  where
    go : StringMeans edition (plain_content (c ∷ [])) (c ∷ []) → UnitMeans edition (plain_for c) c
    go ([], e, m) = absurd m
    go (u ∷ [], e, m) = subst (λ (w : List ℕ). UnitMeans edition w c) (sym (sym (append-nil (plain_for c)) ∙ e ∙ append-nil u)) m.0
    go (u ∷ v ∷ us, e, m) = absurd m.1

pub unit_means : (edition : Edition) (c : ℕ) → UnitMeans edition (unit_for c) c
unit_means edition c = by (escape_letter c) refl
  where
    without : (b : Bool) → is_control c ≡ b → escape_letter c ≡ None → UnitMeans edition (cond b (codes "\\u00" ++ (hex_digit (c / 16) ∷ hex_digit (c % 16) ∷ [])) (c ∷ [])) c
    without true is none =
        let low : c < 160 = control_below c is in
        inr (inr (inl ((48 ∷ 48 ∷ hex_digit (c / 16) ∷ hex_digit (c % 16) ∷ [], refl, refl, (refl, (refl, ((high_is c low).0, ((low_is c low).0, tt)))), number_is c low), is_scalar c low)))
    without false is none =
        let high : nat_lt c 32 ≡ false = grind (arith, nat_tests) in
        let same : plain_for c ≡ c ∷ [] = ap (plain_with c) none ∙ ap (λ (b : Bool). cond b (codes "\\u00" ++ (digit_char (c / 16) ∷ digit_char (c % 16) ∷ [])) (c ∷ [])) high in
        subst (λ (w : List ℕ). UnitMeans edition w c) same (plain_unit edition c)

    by : (letter : Option ℕ) → escape_letter c ≡ letter → UnitMeans edition (unit_with c letter) c
    by (Some letter) e = subst (λ (w : List ℕ). UnitMeans edition w c) (ap (plain_with c) e) (plain_unit edition c)
    by None e = without (is_control c) refl e

-- ---- whole contents

units_mean : (edition : Edition) (cs : List ℕ) → UnitsMean edition (map unit_for cs) cs
units_mean edition [] = tt
units_mean edition (c ∷ cs) = (unit_means edition c, units_mean edition cs)

joined : (cs : List ℕ) → content_for cs ≡ concat (map unit_for cs)
joined [] = refl
joined (c ∷ cs) = ap (λ (rest : List ℕ). unit_for c ++ rest) (joined cs)

pub content_means : (edition : Edition) (cs : List ℕ) → StringMeans edition (content_for cs) cs
content_means edition cs = (map unit_for cs, joined cs, units_mean edition cs)

-- ---- no control character is in them

abbrev no_control : ℕ → Bool
no_control c = not (is_control c)

abbrev HasNone : List ℕ → Type 0
HasNone cs = list_all no_control cs ≡ true

joint : (a b : Bool) → a ≡ true → b ≡ true → (a && b) ≡ true
joint true b e f = f
joint false b e f = absurd cc

-- a character that has this letter, or else another or none
with_letter : (c : ℕ) (has : Bool) (letter : ℕ) (others : Option ℕ) → no_control letter ≡ true → HasNone (unit_with c others) → HasNone (unit_with c (cond has (Some letter) others))
with_letter c true letter others h k = joint (no_control letter) true h refl
with_letter c false letter others h k = k

with_letters : (c : ℕ) (ls : List (ℕ × ℕ)) → AllByRecursion (λ l. no_control l.1 ≡ true) ls → HasNone (unit_with c None) → HasNone (unit_with c (lookup (λ k. eqb c k) ls))
with_letters c [] h k = k
with_letters c (l ∷ ls) h k = with_letter c (eqb c l.0) l.1 (lookup (λ k. eqb c k) ls) h.0 (with_letters c ls h.1 k)

no_letter : (c : ℕ) → HasNone (unit_with c None)
no_letter c = go (is_control c) refl
  where
    go : (b : Bool) → is_control c ≡ b → HasNone (cond b (codes "\\u00" ++ (hex_digit (c / 16) ∷ hex_digit (c % 16) ∷ [])) (c ∷ []))
    go true is =
        let low : c < 160 = control_below c is in
        joint (no_control (hex_digit (c / 16))) (no_control (hex_digit (c % 16)) && true) (high_is c low).1 (joint (no_control (hex_digit (c % 16))) true (low_is c low).1 refl)
    go false is = joint (no_control c) true (ap not is) refl

unit_clear : (c : ℕ) → HasNone (unit_for c)
unit_clear c = with_letters c letters (refl, (refl, (refl, (refl, (refl, (refl, (refl, tt))))))) (no_letter c)

pub content_clear : (cs : List ℕ) → list_all (λ c. not (is_control c)) (content_for cs) ≡ true
content_clear [] = refl
content_clear (c ∷ cs) = list_all-append no_control (unit_for c) (content_for cs) ∙ joint (list_all no_control (unit_for c)) (list_all no_control (content_for cs)) (unit_clear c) (content_clear cs)
