-- How many items, fields and selections there are.
use Rattle.std.proofs.Common.{◌≡◌, ℕ, suc, List, [], ◌∷◌, length, refl, ap}
use Rattle.graphql_parser.specs.trees.Request.{Selection, set_of}
use Rattle.graphql_parser.specs.trees.ValueTree.{Tree, trees_of, fields_of}
use Rattle.graphql_parser.specs.types.Positioned.{Positioned}
use Rattle.graphql_packed.specs.packed.Requests.{selections_count}
use Rattle.graphql_packed.specs.packed.Values.{items_count, fields_count}

pub items_counted : (items : List Tree) → items_count (trees_of items) ≡ length items
items_counted [] = refl
items_counted (item ∷ items) = ap (λ n. suc n) (items_counted items)

pub fields_counted : (fields : List (List ℕ × Tree)) → fields_count (fields_of fields) ≡ length fields
fields_counted [] = refl
fields_counted (field ∷ fields) = ap (λ n. suc n) (fields_counted fields)

pub selections_counted : (selections : List (Positioned Selection)) → selections_count (set_of selections) ≡ length selections
selections_counted [] = refl
selections_counted (selection ∷ selections) = ap (λ n. suc n) (selections_counted selections)
