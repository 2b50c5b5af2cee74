-- What is written of the values of a type: the tree that each stands for, and the JSON of that tree at a place.
use Rattle.graphql_json.specs.declared.place.Place.{Place}
use Rattle.json.specs.Json.{Json}

pub record Form (A : Type 0) : Type 1 where
  pub Tree : Type 0
  pub tree : A → Tree
  pub json : Place → Tree → Json

abbrev pub form : {A T : Type 0} → (A → T) → (Place → T → Json) → Form A
form {T = T} tree json = record { Tree = T; tree = tree; json = json }
