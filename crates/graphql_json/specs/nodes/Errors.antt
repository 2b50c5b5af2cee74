-- The JSON of errors: an entry of `errors` in the response to a request.
-- Source: GraphQL October 2021, section 7.1.2 (Errors). That an error with no place has no `locations` is this project's choice.
use Rattle.std.specs.Prelude.{ℕ, List, [], ◌∷◌, codes}
use Rattle.graphql_parser.specs.types.Pos.{Pos}
use Rattle.graphql_json.specs.nodes.Nodes.{items_of, pos_members}
use Rattle.json.specs.Json.{Json, string, array, object, Members, no_members, member}

-- a place: its line and its column
abbrev pub location_json : Pos → Json
location_json pos = object (pos_members pos no_members)

abbrev pub locations_member : List Pos → Members
locations_member [] = no_members
locations_member (pos ∷ others) = member (codes "locations") (array (items_of location_json (pos ∷ others))) no_members

-- a message, and the places that it is about
abbrev pub error_value : List ℕ → List Pos → Json
error_value message places = object (member (codes "message") (string message) (locations_member places))
