-- Whether the names of an object's fields are distinct, what the fields are with one pair more, and where each pair is put.
use Rattle.std.specs.Prelude.{◌≡◌, ℕ, Bool, true, cond, not, ◌&&◌, suc, List, [], ◌∷◌, Option, Some, None}
use Rattle.std.specs.Borrow.{Bor}
use Rattle.std.specs.Option.{option_map}
use Rattle.std.specs.Ordering.{nat_cmp}
use Rattle.std.specs.Cmp.Lexicographic.{slice_cmp}
use Rattle.std.specs.List.{list_any}
use Rattle.std.specs.BTreeMap.{BTreeMap, get_by}
use Rattle.std.specs.Str.{bytes_eq}
use Rattle.graphql_grammar.specs.grammar.Merged.{has_name}

abbrev pub are_distinct : {A : Type 0} → List (List ℕ × A) → Bool
are_distinct [] = true
are_distinct (pair ∷ pairs) = not (list_any (has_name pair.0) pairs) && are_distinct pairs

-- the name keeps its place, or else goes last
abbrev pub put : {A : Type 0} → List (List ℕ × A) → List ℕ × A → List (List ℕ × A)
put [] pair = pair ∷ []
put (first ∷ pairs) pair = cond (has_name first.0 pair) ((first.0, pair.1) ∷ pairs) (first ∷ put pairs pair)

abbrev pub put_all : {A : Type 0} → List (List ℕ × A) → List (List ℕ × A) → List (List ℕ × A)
put_all front [] = front
put_all front (pair ∷ pairs) = put_all (put front pair) pairs

-- how many pairs stand before the one with this name
abbrev pub place_among : {A : Type 0} → List (List ℕ × A) → List ℕ → ℕ
place_among [] name = 0
place_among (first ∷ pairs) name = cond (bytes_eq name first.0) 0 (suc (place_among pairs name))

-- for each pair the place where it is put
abbrev pub places : {A : Type 0} → List (List ℕ × A) → List (List ℕ × A) → List ℕ
places front [] = []
places front (pair ∷ pairs) = place_among front pair.0 ∷ places (put front pair) pairs

-- the place of the pair with this name, if there is one
abbrev pub place_in : {A : Type 0} → List (List ℕ × A) → List ℕ → Option ℕ
place_in [] name = None
place_in (first ∷ pairs) name = cond (bytes_eq name first.0) (Some 0) (option_map suc (place_in pairs name))

-- what a map gives for a name
abbrev pub found_at : BTreeMap (Bor (List ℕ)) ℕ → List ℕ → Option ℕ
found_at known name = get_by (λ key. slice_cmp nat_cmp name key.now) known

-- the map gives for the name of each pair its place, and for no other name
abbrev pub Knows : {A : Type 0} → BTreeMap (Bor (List ℕ)) ℕ → List (List ℕ × A) → Type 0
Knows known pairs = (name : List ℕ) → found_at known name ≡ place_in pairs name
