-- What a name finds among the entries of a map; and that what is made of clones of them has their trees.
use Rattle.std.proofs.Common.{◌≡◌, ℕ, Bool, cond, List, [], ◌∷◌, map, Option, Some, nat_eq, refl, ap₂}
use Rattle.std.specs.List.{AllZip}
use Rattle.std.specs.Map.{lookup}
use Rattle.std.specs.Cmp.Lexicographic.{pointwise, nat_list_eq_equiv}
use Rattle.graphql_syntax.specs.calls.Named.{named}
use Rattle.graphql_tokens.specs.declared.pos.Positioned.{Positioned}
use Rattle.graphql_syntax.specs.trees.Parts.{Name}
use Rattle.graphql_syntax.proofs.Clones.{same_parts, same_placed}
use Rattle.graphql_trees.specs.trees.RequestViews.{entry_tree}

-- clones in a map, where a clone has the tree of its source
module _ {D T : Type 0} (tree : D → T) (is_clone : D → D → Type 0) (same : (x y : D) → is_clone x y → tree y ≡ tree x) where
  pub same_entries : (es fs : List (Name × Positioned D)) → AllZip (λ x y. (y.0 ≡ x.0) × ((y.1.pos ≡ x.1.pos) × is_clone x.1.node y.1.node)) es fs →
      map (entry_tree tree) fs ≡ map (entry_tree tree) es
  same_entries = same_parts (entry_tree tree) (λ e f. (f.0 ≡ e.0) × ((f.1.pos ≡ e.1.pos) × is_clone e.1.node f.1.node))
      (λ e f clone i. (clone.0 i, same_placed tree e.1 f.1 (clone.1.0, same e.1.node f.1.node clone.1.1) i))

same_either_way : (m n : List ℕ) → pointwise nat_eq m n ≡ pointwise nat_eq n m
same_either_way m n = nat_list_eq_equiv.symm m n

-- a map finds the value of the first entry of the name
pub named_by_lookup : {V : Type 0} (name : List ℕ) (entries : List (List ℕ × V)) → lookup (pointwise nat_eq name) entries ≡ named name entries
named_by_lookup name [] = refl
named_by_lookup {V} name (entry ∷ entries) = ap₂ (λ (b : Bool) (rest : Option V). cond b (Some entry.1) rest) (same_either_way name entry.0) (named_by_lookup name entries)
