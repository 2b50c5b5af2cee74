-- What a call adds to the JSON that is written so far.
use Rattle.std.specs.Prelude.{◌≡◌, ℕ, List, [], ◌∷◌, ◌++◌, Result, OnOk, Option, Some, None, option_map, if◌then◌else◌, ◌==◌, ◌&&◌, codes, decimal}
use Rattle.std.specs.Borrow.{Bor}
use Rattle.graphql_parser.specs.types.Pos.{Pos}
use Rattle.graphql_json.specs.declared.place.Place.{Place}
use Rattle.graphql_json.specs.declared.place.Places.{Places}
use Rattle.graphql_json.specs.declared.place.Places.TheVariants.{LeftOut, Written}
use Rattle.graphql_json.specs.nodes.Errors.{location_json}
use Rattle.graphql_json.specs.nodes.Nodes.{items_of}
use Rattle.json.specs.Json.{Json, array}
use Rattle.json.specs.Token.{Token, begin_object, key, number, string}
use Rattle.json.specs.Tree.{json_tokens}

-- where a call goes well, it adds these tokens
pub record Adds {E : Type 0} (result : Result (Unit {0}) E) (old new added : List Token) : Type 0 where
  pub ok : OnOk result (new ≡ old ++ added)

-- the tokens of a place
abbrev pub pos_tokens : Pos → List Token
pos_tokens pos = key (codes "line") ∷ number (decimal pos.line) ∷ key (codes "column") ∷ number (decimal pos.column) ∷ []

abbrev pub place_tokens : Places → Option Pos → List Token
place_tokens LeftOut pos = []
place_tokens Written None = []
place_tokens Written (Some pos) = if (pos.line == 0) && (pos.column == 0) then [] else pos_tokens pos

-- the tokens of a place that is shown, where there is one
abbrev pub shown_tokens : Option Pos → List Token
shown_tokens None = []
shown_tokens (Some pos) = pos_tokens pos

-- what opens a node
abbrev pub opening : List ℕ → Place → List Token
opening kind place = begin_object ∷ key (codes "kind") ∷ string kind ∷ place_tokens place.places place.pos

-- a member
abbrev pub member_tokens : List ℕ → Json → List Token
member_tokens name json = key name ∷ json_tokens json

-- a member for a part that may be missing
abbrev pub optional_tokens : {A : Type 0} → List ℕ → (A → Json) → Option A → List Token
optional_tokens name json None = []
optional_tokens name json (Some part) = member_tokens name (json part)

-- a name that is lent, where there is one
abbrev pub lent_name : Option (Bor (List ℕ)) → Option (List ℕ)
lent_name name = option_map (λ n. n.now) name

-- the places of an error as a member, where it has some
abbrev pub location_tokens : List Pos → List Token
location_tokens [] = []
location_tokens (pos ∷ others) = member_tokens (codes "locations") (array (items_of location_json (pos ∷ others)))
