-- Items and the changes that they are, one more of each.
use Rattle.std.proofs.Common.{List, [], ◌∷◌, ◌++◌}
use Rattle.json.specs.declared.value.Value.{Value}
use Rattle.json.specs.Value.{value_view, items_view}
use Rattle.graphql_server.specs.declared.texts.Change.{Change}
use Rattle.graphql_server.specs.Members.{IsChangeIn, AreItems}

pub items-append : {A : Type 0} (values : List (Value A)) (value : Value A) (changes : List Change) (change : Change) → AreItems (items_view values) changes → IsChangeIn (value_view value) change → AreItems (items_view (values ++ (value ∷ []))) (changes ++ (change ∷ []))
items-append [] value [] change all is = (is, tt)
items-append [] value (c ∷ changes) change all is = absurd all
items-append (v ∷ values) value [] change all is = absurd all
items-append (v ∷ values) value (c ∷ changes) change all is = (all.0, items-append values value changes change all.1 is)
