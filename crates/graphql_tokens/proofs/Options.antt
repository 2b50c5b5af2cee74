-- Options that are equal, and readers that may find nothing.
use Rattle.std.proofs.Common.{◌≡◌, ℕ, zero, suc, List, [], ◌∷◌, drop, Option, Some, refl, ◌∙◌}

pub some_same : {A : Type 0} (x y : A) → Some x ≡ Some y → x ≡ y
some_same x y e = cc

-- a reader that first counts down the characters that are left of a unit
pub counts_down : (f : ℕ → List ℕ → Option (List ℕ)) → ((n : ℕ) → f (suc n) [] ≡ f 0 []) → ((n c : ℕ) (cs : List ℕ) → f (suc n) (c ∷ cs) ≡ f n cs)
    → (n : ℕ) (text : List ℕ) → f n text ≡ f 0 (drop n text)
counts_down f ends goes zero text = refl
counts_down f ends goes (suc n) [] = ends n
counts_down f ends goes (suc n) (c ∷ cs) = goes n c cs ∙ counts_down f ends goes n cs
