-- Lists of prices that are compared.
use Rattle.std.proofs.Common.{◌≡◌, ℕ, Bool, true, false, ◌&&◌, List, [], ◌∷◌, Option, Some, None, nat_eq, refl, ap, ap₂}
use Rattle.std.specs.Option.{option_eq}
use Rattle.std.specs.Cmp.Lexicographic.{pointwise}
use Rattle.std.proofs.lemmas.Bool.{eqb-true}

both_true : (a b : Bool) → (a && b) ≡ true → (a ≡ true) × (b ≡ true)
both_true true b p = (refl, p)
both_true false b p = absurd (cc)

same_price : (x y : Option ℕ) → option_eq nat_eq x y ≡ true → x ≡ y
same_price None None p = refl
same_price None (Some b) p = absurd (cc)
same_price (Some a) None p = absurd (cc)
same_price (Some a) (Some b) p = ap Some (eqb-true a b p)

pub same_prices : (xs ys : List (Option ℕ)) → pointwise (option_eq nat_eq) xs ys ≡ true → xs ≡ ys
same_prices [] [] p = refl
same_prices [] (y ∷ ys) p = absurd (cc)
same_prices (x ∷ xs) [] p = absurd (cc)
same_prices (x ∷ xs) (y ∷ ys) p =
    let h = both_true (option_eq nat_eq x y) (pointwise (option_eq nat_eq) xs ys) p in
    ap₂ (λ (a : Option ℕ) (as₀ : List (Option ℕ)). a ∷ as₀) (same_price x y h.0) (same_prices xs ys h.1)
