-- The places of an error that has some, as a member.
use Rattle.std.proofs.Common.{◌≡◌, List, [], ◌∷◌, length, codes, refl}
use Rattle.graphql_parser.specs.types.Pos.{Pos}
use Rattle.graphql_json.specs.inner.Written.{location_tokens, member_tokens}
use Rattle.graphql_json.specs.nodes.Errors.{location_json}
use Rattle.graphql_json.specs.nodes.Nodes.{items_of}
use Rattle.json.specs.Json.{array}

pub located : (places : List Pos) → (length places ≡ 0 → ⊥) → member_tokens (codes "locations") (array (items_of location_json places)) ≡ location_tokens places
located [] some = absurd (some refl)
located (pos ∷ others) some = refl
