-- Lists of trees and of fields that are tested against each other: those that pass are as long, and what is left decides.
use Rattle.std.proofs.Common.{◌≡◌, ◌≢◌, ℕ, suc, ◌+◌, ◌<◌, Bool, true, false, not, ◌&&◌, List, [], ◌∷◌, length, get_or, drop, map, refl, sym, ap, ap₂, ◌∙◌, add-one, drop-cons, arith}
use Rattle.std.specs.Cmp.{second_so}
use Rattle.graphql_syntax.specs.trees.ValueTree.{Tree, trees_of, fields_of}
use Rattle.graphql_syntax.specs.trees.TreeEquality.{same_text, same_tree, same_trees, same_fields}

unless_true : (b : Bool) → (b ≡ true → ⊥) → false ≡ b
unless_true true f = absurd (f refl)
unless_true false f = refl

twice : (b : Bool) → b ≡ not (not b)
twice true = refl
twice false = refl

module _ {A : Type 0} where
  length-same_trees : (f : A → Tree) (xs ys : List A) → same_trees (trees_of (map f xs)) (trees_of (map f ys)) ≡ true → length xs ≡ length ys
  length-same_trees f [] [] e = refl
  length-same_trees f [] (y ∷ ys) e = cc
  length-same_trees f (x ∷ xs) [] e = cc
  length-same_trees f (x ∷ xs) (y ∷ ys) e =
      ap suc (length-same_trees f xs ys (second_so (same_tree (f x) (f y)) (same_trees (trees_of (map f xs)) (trees_of (map f ys))) e))

  length-same_fields : (f : A → List ℕ × Tree) (xs ys : List A) → same_fields (fields_of (map f xs)) (fields_of (map f ys)) ≡ true → length xs ≡ length ys
  length-same_fields f [] [] e = refl
  length-same_fields f [] (y ∷ ys) e = cc
  length-same_fields f (x ∷ xs) [] e = cc
  length-same_fields f (x ∷ xs) (y ∷ ys) e =
      let rest = second_so (same_tree (f x).1 (f y).1) (same_fields (fields_of (map f xs)) (fields_of (map f ys))) (second_so (same_text (f x).0 (f y).0) (same_tree (f x).1 (f y).1 && same_fields (fields_of (map f xs)) (fields_of (map f ys))) e) in
      ap suc (length-same_fields f xs ys rest)

  pub same_trees_of_other_length : (f : A → Tree) (xs ys : List A) → length xs ≢ length ys → false ≡ same_trees (trees_of (map f xs)) (trees_of (map f ys))
  same_trees_of_other_length f xs ys n = unless_true _ (λ e. n (length-same_trees f xs ys e))

  pub same_fields_of_other_length : (f : A → List ℕ × Tree) (xs ys : List A) → length xs ≢ length ys → false ≡ same_fields (fields_of (map f xs)) (fields_of (map f ys))
  same_fields_of_other_length f xs ys n = unless_true _ (λ e. n (length-same_fields f xs ys e))

  -- the items, or the fields, from an index on decide
  abbrev pub IsDecidedByItems : (A → Tree) → List A → List A → ℕ → Type 0
  IsDecidedByItems f xs ys i = same_trees (trees_of (map f xs)) (trees_of (map f ys)) ≡ same_trees (trees_of (map f (drop i xs))) (trees_of (map f (drop i ys)))

  abbrev pub IsDecidedByFields : (A → List ℕ × Tree) → List A → List A → ℕ → Type 0
  IsDecidedByFields f xs ys i = same_fields (fields_of (map f xs)) (fields_of (map f ys)) ≡ same_fields (fields_of (map f (drop i xs))) (fields_of (map f (drop i ys)))

  -- the items of this index decide, and then those after it
  front : (xs read : List A) (i : ℕ) (x : A) → read ≡ xs → i < length read → x ≡ get_or read i x → drop i xs ≡ x ∷ drop (i + 1) xs
  front xs read i x is l at =
      let first : drop i read ≡ x ∷ drop (i + 1) read = rw (add-one, drop-cons read i x) (ap (λ y. y ∷ drop (suc i) read) (sym at)) in
      ap (drop i) (sym is) ∙ first ∙ ap (λ us. x ∷ drop (i + 1) us) is

  pub items_from : (f : A → Tree) (xs ys read : List A) (i : ℕ) (x y : A) (same : Bool) → read ≡ xs → i < length read → length xs ≡ length ys → x ≡ get_or read i x → y ≡ get_or ys i y →
      IsDecidedByItems f xs ys i → same ≡ same_tree (f x) (f y) →
      same_trees (trees_of (map f xs)) (trees_of (map f ys)) ≡ (same && same_trees (trees_of (map f (drop (i + 1) xs))) (trees_of (map f (drop (i + 1) ys))))
  items_from f xs ys read i x y same is l lengths x-at y-at decided s =
      decided ∙ ap₂ (λ us vs. same_trees (trees_of (map f us)) (trees_of (map f vs))) (front xs read i x is l x-at) (front ys ys i y refl (omega (arith, ap length is)) y-at) ∙
      ap (λ b. b && same_trees (trees_of (map f (drop (i + 1) xs))) (trees_of (map f (drop (i + 1) ys)))) (sym s)

  pub fields_from : (f : A → List ℕ × Tree) (xs ys read : List A) (i : ℕ) (x y : A) (other same : Bool) → read ≡ xs → i < length read → length xs ≡ length ys → x ≡ get_or read i x → y ≡ get_or ys i y →
      IsDecidedByFields f xs ys i → other ≡ not (same_text (f x).0 (f y).0) → same ≡ same_tree (f x).1 (f y).1 →
      same_fields (fields_of (map f xs)) (fields_of (map f ys)) ≡ (not other && (same && same_fields (fields_of (map f (drop (i + 1) xs))) (fields_of (map f (drop (i + 1) ys)))))
  fields_from f xs ys read i x y other same is l lengths x-at y-at decided o s =
      decided ∙ ap₂ (λ us vs. same_fields (fields_of (map f us)) (fields_of (map f vs))) (front xs read i x is l x-at) (front ys ys i y refl (omega (arith, ap length is)) y-at) ∙
      ap₂ (λ a b. a && (b && same_fields (fields_of (map f (drop (i + 1) xs))) (fields_of (map f (drop (i + 1) ys))))) (twice (same_text (f x).0 (f y).0) ∙ ap not (sym o)) (sym s)
