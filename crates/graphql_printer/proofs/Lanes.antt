-- Bytes that are tested eight at once.
use Rattle.std.proofs.Common.{◌≡◌, ℕ, zero, suc, ◌+◌, ◌-◌, ◌*◌, ◌≤◌, ◌<◌, Bool, true, false, not, ◌&&◌, cond, eqb, List, [], ◌∷◌, map, length, drop, refl, sym, ap, ◌∙◌, arith}
use Rattle.std.proofs.lemmas.Bool.{eqb-true, eqb-false}
use Rattle.std.proofs.lemmas.List.{drop-drop}
use Rattle.std.proofs.lemmas.List.Folds.{list_all-append}
use Rattle.std.proofs.lemmas.Simd.{chunk-drop}
use Rattle.std.specs.List.{list_all}
use lib.Lanes.{chunk, mask_l}
use Rattle.graphql_tokens.specs.inner.ByteClasses.{is_outside}

pub eight : (v : List ℕ) → length v ≡ 8 → length v ≤ 64
eight v e = omega arith

module _ (p : ℕ → Bool) where
  -- no bit is set where all pass, and all pass where none is set
  pub all_from_mask : (xs : List ℕ) → mask_l (map (is_outside p) xs) ≡ 0 → list_all p xs ≡ true
  all_from_mask [] e = refl
  all_from_mask (x ∷ xs) e = by (p x) e (all_from_mask xs)
    where
      by : (b : Bool) {m : ℕ} → cond (not b) 1 0 + 2 * m ≡ 0 → (m ≡ 0 → list_all p xs ≡ true) → (b && list_all p xs) ≡ true
      by true e h = h (omega arith)
      by false e h = absurd (omega arith)

  mask_from_all : (xs : List ℕ) → list_all p xs ≡ true → mask_l (map (is_outside p) xs) ≡ 0
  mask_from_all [] e = refl
  mask_from_all (x ∷ xs) e = by (p x) e (mask_from_all xs)
    where
      by : (b : Bool) {m : ℕ} → (b && list_all p xs) ≡ true → (list_all p xs ≡ true → m ≡ 0) → cond (not b) 1 0 + 2 * m ≡ 0
      by true e h = let zero = h e in omega arith
      by false e h = absurd cc

  cut : (bs : List ℕ) (i n : ℕ) → list_all p (drop i bs) ≡ (list_all p (chunk i n bs) && list_all p (drop (i + n) bs))
  cut bs i n = ap (list_all p) (chunk-drop i n bs) ∙ list_all-append p (chunk i n bs) (drop (i + n) bs)

  pub goes_on : (bs : List ℕ) (i n : ℕ) → mask_l (map (is_outside p) (chunk i n bs)) ≡ 0 → list_all p (drop (i + n) bs) ≡ list_all p (drop i bs)
  goes_on bs i n e = sym (cut bs i n ∙ ap (λ (b : Bool). b && list_all p (drop (i + n) bs)) (all_from_mask (chunk i n bs) e))

  pub stops : (bs : List ℕ) (i n : ℕ) → 0 < mask_l (map (is_outside p) (chunk i n bs)) → list_all p (drop i bs) ≡ false
  stops bs i n some = by (list_all p (chunk i n bs)) refl
    where
      by : (b : Bool) → list_all p (chunk i n bs) ≡ b → list_all p (drop i bs) ≡ false
      by true e = let none = mask_from_all (chunk i n bs) e in absurd (omega arith)
      by false e = cut bs i n ∙ ap (λ (b : Bool). b && list_all p (drop (i + n) bs)) e

  all_left : (n : ℕ) (xs : List ℕ) → list_all p xs ≡ true → list_all p (drop n xs) ≡ true
  all_left zero xs e = e
  all_left (suc n) [] e = refl
  all_left (suc n) (x ∷ xs) e = by (p x) e (all_left n xs)
    where
      by : (b : Bool) → (b && list_all p xs) ≡ true → (list_all p xs ≡ true → list_all p (drop n xs) ≡ true) → list_all p (drop n xs) ≡ true
      by true e h = h e
      by false e h = absurd cc

  none_left : (xs : List ℕ) (n : ℕ) → length xs ≤ n → list_all p (drop n xs) ≡ true
  none_left [] zero le = refl
  none_left [] (suc n) le = refl
  none_left (x ∷ xs) zero le = absurd (omega arith)
  none_left (x ∷ xs) (suc n) le = none_left xs n (omega arith)

  none_in : (bs : List ℕ) (from last : ℕ) → last ≤ from → list_all p (drop from bs) ≡ list_all p bs → list_all p (drop last bs) ≡ true → list_all p bs ≡ true
  none_in bs from last le run e =
      let same : last + (from - last) ≡ from = omega arith in
      sym run ∙ ap (λ (k : ℕ). list_all p (drop k bs)) (sym same) ∙ ap (list_all p) (sym (drop-drop (from - last) last bs)) ∙ all_left (from - last) (drop last bs) e

  some_in : (bs : List ℕ) (last : ℕ) (b : Bool) → list_all p bs ≡ b → list_all p (drop last bs) ≡ false → b ≡ false
  some_in bs last false e h = refl
  some_in bs last true e h = let no : true ≡ false = sym (all_left last bs e) ∙ h in cc

  -- the last of them, some once more
  tested : (bs : List ℕ) (from last n mask : ℕ) → last ≤ from → last + n ≡ length bs → list_all p (drop from bs) ≡ list_all p bs → mask ≡ mask_l (map (is_outside p) (chunk last n bs)) → (b : Bool) → eqb mask 0 ≡ b → b ≡ list_all p bs
  tested bs from last n mask le whole run is true e =
      let zero : mask_l (map (is_outside p) (chunk last n bs)) ≡ 0 = sym is ∙ eqb-true mask 0 e in
      sym (none_in bs from last le run (sym (goes_on bs last n zero) ∙ none_left bs (last + n) (omega arith)))
  tested bs from last n mask le whole run is false e =
      let set : 0 < mask_l (map (is_outside p) (chunk last n bs)) = omega (arith, is, eqb-false mask 0 e) in
      sym (some_in bs last (list_all p bs) refl (stops bs last n set))

  pub last_tested : (bs : List ℕ) (from n mask : ℕ) → n ≤ length bs → length bs < from + n → list_all p (drop from bs) ≡ list_all p bs → mask ≡ mask_l (map (is_outside p) (chunk (length bs - n) n bs))
      → eqb mask 0 ≡ list_all p bs
  last_tested bs from n mask long few run is = tested bs from (length bs - n) n mask (omega arith) (omega arith) run is (eqb mask 0) refl
