-- What is made of clones, place by place, has the tree of the whole.
use Rattle.std.proofs.Common.{◌≡◌, List, [], ◌∷◌, map, Option, Some, None, option_map, refl, ap}
use Rattle.std.specs.List.{AllZip}
use Rattle.graphql_tokens.specs.declared.pos.Positioned.{Positioned}
use Rattle.graphql_syntax.specs.trees.Parts.{Name, placed}
use Rattle.graphql_syntax.specs.trees.ValueTree.{Tree}

-- y is at the place of x, and its node has the same tree
abbrev pub IsClone : {A B : Type 0} → (A → B) → Positioned A → Positioned A → Type 0
IsClone tree x y = (y.pos ≡ x.pos) × (tree y.node ≡ tree x.node)

pub same_placed : {A B : Type 0} (tree : A → B) (x y : Positioned A) → IsClone tree x y → placed tree y ≡ placed tree x
same_placed tree x y clone = λ i. record { pos = clone.0 i; node = clone.1 i }

pub same_node : {A : Type 0} (x y : Positioned A) → IsClone (λ n. n) x y → y ≡ x
same_node x y clone = λ i. record { pos = clone.0 i; node = clone.1 i }

-- the same of lists, whatever makes the tree of a part
pub same_parts : {A B : Type 0} (tree : A → B) (IsSame : A → A → Type 0) (same : (x y : A) → IsSame x y → tree y ≡ tree x) (xs ys : List A) → AllZip IsSame xs ys → map tree ys ≡ map tree xs
same_parts tree IsSame same [] [] clones = refl
same_parts tree IsSame same [] (y ∷ ys) clones = absurd clones
same_parts tree IsSame same (x ∷ xs) [] clones = absurd clones
same_parts tree IsSame same (x ∷ xs) (y ∷ ys) clones =
    λ i. same x y clones.0 i ∷ same_parts tree IsSame same xs ys clones.1 i

pub same_list : {A B : Type 0} (tree : A → B) (xs ys : List (Positioned A)) → AllZip (IsClone tree) xs ys → map (placed tree) ys ≡ map (placed tree) xs
same_list tree = same_parts (placed tree) (IsClone tree) (same_placed tree)

-- the same of a list of parts that have no place of their own
pub same_all : {A B : Type 0} (tree : A → B) (xs ys : List A) → AllZip (λ x y. tree y ≡ tree x) xs ys → map tree ys ≡ map tree xs
same_all tree = same_parts tree (λ x y. tree y ≡ tree x) (λ x y clone. clone)

-- the same of a list whose nodes' clones are told by a relation of their own
pub same_trees : {A B : Type 0} (tree : A → B) (is_clone : A → A → Type 0) (same : (x y : A) → is_clone x y → tree y ≡ tree x) (xs ys : List (Positioned A)) →
    AllZip (λ x y. (y.pos ≡ x.pos) × is_clone x.node y.node) xs ys → map (placed tree) ys ≡ map (placed tree) xs
same_trees tree is_clone same =
    same_parts (placed tree) (λ x y. (y.pos ≡ x.pos) × is_clone x.node y.node) (λ x y clone. same_placed tree x y (clone.0, same x.node y.node clone.1))

-- the same of a list of nodes that are plain data
pub same_nodes : {A : Type 0} (xs ys : List (Positioned A)) → AllZip (IsClone (λ n. n)) xs ys → ys ≡ xs
same_nodes [] [] clones = refl
same_nodes [] (y ∷ ys) clones = absurd clones
same_nodes (x ∷ xs) [] clones = absurd clones
same_nodes (x ∷ xs) (y ∷ ys) clones = λ i. same_node x y clones.0 i ∷ same_nodes xs ys clones.1 i

-- the same of arguments
module _ {V : Type 0} (tree : V → Tree) where
  abbrev pub argument : Positioned Name × Positioned V → Positioned Name × Positioned Tree
  argument a = (a.0, placed tree a.1)

  abbrev pub IsCloneOfArgument : Positioned Name × Positioned V → Positioned Name × Positioned V → Type 0
  IsCloneOfArgument x y = IsClone (λ n. n) x.0 y.0 × IsClone tree x.1 y.1

  pub same_arguments : (xs ys : List (Positioned Name × Positioned V)) → AllZip IsCloneOfArgument xs ys → map argument ys ≡ map argument xs
  same_arguments = same_parts argument IsCloneOfArgument (λ x y clone i. (same_node x.0 y.0 clone.0 i, same_placed tree x.1 y.1 clone.1 i))

-- the same of what may be left out
abbrev pub IsCloneOfOption : {A B : Type 0} → (A → B) → Option (Positioned A) → Option (Positioned A) → Type 0
IsCloneOfOption tree None None = Unit {0}
IsCloneOfOption tree None (Some y) = ⊥
IsCloneOfOption tree (Some x) None = ⊥
IsCloneOfOption tree (Some x) (Some y) = IsClone tree x y

pub same_option : {A B : Type 0} (tree : A → B) (o p : Option (Positioned A)) → IsCloneOfOption tree o p → option_map (placed tree) p ≡ option_map (placed tree) o
same_option tree None None clone = refl
same_option tree None (Some y) clone = absurd clone
same_option tree (Some x) None clone = absurd clone
same_option tree (Some x) (Some y) clone = ap Some (same_placed tree x y clone)

pub same_optional_node : {A : Type 0} (o p : Option (Positioned A)) → IsCloneOfOption (λ (n : A). n) o p → p ≡ o
same_optional_node None None clone = refl
same_optional_node None (Some y) clone = absurd clone
same_optional_node (Some x) None clone = absurd clone
same_optional_node (Some x) (Some y) clone = ap Some (same_node x y clone)
