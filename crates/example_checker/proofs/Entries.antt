-- The names of the fragments of a request, and those of its tree.
use Rattle.std.proofs.Common.{◌≡◌, ℕ, List, [], ◌∷◌, map, length, Option, Some, None, nat_eq, refl, ap, sym, ◌∙◌}
use Rattle.std.specs.Option.{option_and_then, option_copied, option_flatten, option_map}
use Rattle.std.specs.List.{slice_get, position}
use Rattle.std.specs.Cmp.Lexicographic.{pointwise}
use Rattle.std.specs.Borrow.{Bor}
use Rattle.std.specs.Slice.{IsItemAt}
use Rattle.std.proofs.lemmas.List.{length-map}
use Rattle.std.proofs.lemmas.Option.{slice_get_past, slice_get-get_or, slice_get-map}
use Rattle.graphql_parser.specs.types.FragmentDefinition.{FragmentDefinition}
use Rattle.example_checker.specs.Prices.{price_in}
use Rattle.graphql_parser.specs.types.Positioned.{Positioned}
use Rattle.graphql_parser.specs.trees.Parts.{Name}
use Rattle.graphql_parser.specs.trees.RequestViews.{entry_tree, fragment_tree}

pub names_of_entries : {D T : Type 0} (tree : D → T) (es : List (Name × Positioned D)) → map (λ (f : Name × Positioned T). f.0) (map (entry_tree tree) es) ≡ map (λ (f : Name × Positioned D). f.0) es
names_of_entries tree [] = refl
names_of_entries tree (e ∷ es) = ap (λ (names : List Name). e.0 ∷ names) (names_of_entries tree es)

pub price_found : (es : List (Name × Positioned FragmentDefinition)) (prices : List (Option ℕ)) (name : Name) (place : Option ℕ) → place ≡ position (pointwise nat_eq name) (map (λ (e : Name × Positioned FragmentDefinition). e.0) es) →
    price_in (map (entry_tree fragment_tree) es) prices name ≡ option_and_then (λ (i : ℕ). option_flatten (slice_get prices i)) place
price_found es prices name place p =
    ap (λ (names : List Name). option_and_then (λ (i : ℕ). option_flatten (slice_get prices i)) (position (pointwise nat_eq name) names)) (names_of_entries fragment_tree es)
    ∙ ap (option_and_then (λ (i : ℕ). option_flatten (slice_get prices i))) (sym p)

pub entries_many : (es : List (Name × Positioned FragmentDefinition)) → length (map (entry_tree fragment_tree) es) ≡ length es
entries_many es = length-map es (entry_tree fragment_tree)

-- what is lent at a place is what stands there
pub item_copied : {X : Type 0} (xs : List X) (i : ℕ) (r : Option (Bor X)) → IsItemAt xs i r → option_copied r ≡ slice_get xs i
item_copied xs i None h = sym (slice_get_past xs i h.3)
item_copied xs i (Some x) h = ap Some h.1 ∙ sym (slice_get-get_or xs i x.now h.3.0)

-- what stands at a place of the entries stands there in the tree
pub entry_at : (es : List (Name × Positioned FragmentDefinition)) (i : ℕ) (e : Name × Positioned FragmentDefinition) → slice_get es i ≡ Some e → slice_get (map (entry_tree fragment_tree) es) i ≡ Some (entry_tree fragment_tree e)
entry_at es i e at = slice_get-map (entry_tree fragment_tree) es i ∙ ap (option_map (entry_tree fragment_tree)) at
