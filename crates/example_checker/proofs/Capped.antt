-- Sums of prices.
use Rattle.std.proofs.Common.{arith, ◌≡◌, ℕ, List, [], ◌∷◌, ◌+◌, min, Option, Some, None, refl, ap, ap₂, sym, ◌∙◌}
use Rattle.graphql_parser.specs.trees.Parts.{Name}
use Rattle.graphql_parser.specs.trees.Request.{Operations, OperationDefinition, Selection, SelectionSet, field, fragment_spread, inline_fragment, no_selections, selection_and, single, multiple}
use Rattle.graphql_parser.specs.types.Positioned.{Positioned}
use Rattle.example_checker.specs.Costs.{both, selection_cost, set_cost, entries_cost, operations_cost}
use Rattle.example_checker.specs.Prices.{capped}

min_sum : (a b m : ℕ) → min (a + b) m ≡ min (min a m + min b m) m
min_sum a b m = omega arith

min_again : (a m : ℕ) → min (min a m) m ≡ min a m
min_again a m = omega arith

pub capped_again : (limit : ℕ) (x : Option ℕ) → capped limit (capped limit x) ≡ capped limit x
capped_again limit None = refl
capped_again limit (Some a) = ap Some (min_again a (limit + 1))

-- the price of a sum is that of the sum of the prices
pub capped_both : (limit : ℕ) (x y : Option ℕ) → capped limit (both x y) ≡ capped limit (both (capped limit x) (capped limit y))
capped_both limit None y = refl
capped_both limit (Some a) None = refl
capped_both limit (Some a) (Some b) = ap Some (min_sum a b (limit + 1))

pub both_alike : (limit : ℕ) (x y z w : Option ℕ) → capped limit x ≡ capped limit z → capped limit y ≡ capped limit w →
    capped limit (both x y) ≡ capped limit (both z w)
both_alike limit x y z w p q = capped_both limit x y ∙ (ap₂ (λ (a b : Option ℕ). capped limit (both a b)) p q ∙ sym (capped_both limit z w))

-- what has the same prices costs the same, up to the limit
mutual
  pub selection_alike : (limit : ℕ) (f g : Name → Option ℕ) → ((n : Name) → capped limit (f n) ≡ capped limit (g n)) → (x : Selection) →
      capped limit (selection_cost f x) ≡ capped limit (selection_cost g x)
  selection_alike limit f g same (field pos alias name arguments directives set_pos set) = both_alike limit (Some 1) (set_cost f set) (Some 1) (set_cost g set) refl (set_alike limit f g same set)
  selection_alike limit f g same (fragment_spread s) = same s.node.fragment_name.node
  selection_alike limit f g same (inline_fragment pos condition directives set_pos set) = set_alike limit f g same set

  pub set_alike : (limit : ℕ) (f g : Name → Option ℕ) → ((n : Name) → capped limit (f n) ≡ capped limit (g n)) → (xs : SelectionSet) →
      capped limit (set_cost f xs) ≡ capped limit (set_cost g xs)
  set_alike limit f g same no_selections = refl
  set_alike limit f g same (selection_and pos x xs) = both_alike limit (selection_cost f x) (set_cost f xs) (selection_cost g x) (set_cost g xs) (selection_alike limit f g same x) (set_alike limit f g same xs)

pub entries_alike : (limit : ℕ) (f g : Name → Option ℕ) → ((n : Name) → capped limit (f n) ≡ capped limit (g n)) → (os : List (Name × Positioned OperationDefinition)) →
    capped limit (entries_cost f os) ≡ capped limit (entries_cost g os)
entries_alike limit f g same [] = refl
entries_alike limit f g same (o ∷ os) = both_alike limit (set_cost f o.1.node.selection_set.node) (entries_cost f os) (set_cost g o.1.node.selection_set.node) (entries_cost g os) (set_alike limit f g same o.1.node.selection_set.node) (entries_alike limit f g same os)

pub operations_alike : (limit : ℕ) (f g : Name → Option ℕ) → ((n : Name) → capped limit (f n) ≡ capped limit (g n)) → (ops : Operations) →
    capped limit (operations_cost f ops) ≡ capped limit (operations_cost g ops)
operations_alike limit f g same (single o) = set_alike limit f g same o.node.selection_set.node
operations_alike limit f g same (multiple os) = entries_alike limit f g same os

-- a step of a sum that is kept as a price
both_assoc : (c : ℕ) (x r : Option ℕ) → both (both (Some c) x) r ≡ both (Some c) (both x r)
both_assoc c None r = refl
both_assoc c (Some a) None = refl
both_assoc c (Some a) (Some b) = ap Some (omega arith)

pub sum_step : (limit c m : ℕ) (x r : Option ℕ) → capped limit x ≡ Some m → capped limit (both (Some (min (c + m) (limit + 1))) r) ≡ capped limit (both (Some c) (both x r))
sum_step limit c m x r p =
    let again : capped limit (Some (min (c + m) (limit + 1))) ≡ capped limit (both (Some c) x) =
    capped_again limit (Some (c + m)) ∙ both_alike limit (Some c) (Some m) (Some c) x refl (ap (capped limit) (sym p) ∙ capped_again limit x) in
    both_alike limit (Some (min (c + m) (limit + 1))) r (both (Some c) x) r again refl ∙ ap (capped limit) (both_assoc c x r)

pub sum_missing : (limit c : ℕ) (x r : Option ℕ) → capped limit x ≡ None → capped limit (both (Some c) (both x r)) ≡ None
sum_missing limit c None r p = refl
sum_missing limit c (Some a) r p = absurd (cc)

-- the price of a field, and of what a spread costs
pub field_price : (limit m : ℕ) (x : Option ℕ) → capped limit x ≡ Some m → Some (min (1 + m) (limit + 1)) ≡ capped limit (both (Some 1) x)
field_price limit m x p = both_alike limit (Some 1) (Some m) (Some 1) x refl (ap (capped limit) (sym p) ∙ capped_again limit x)
