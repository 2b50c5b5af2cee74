-- What a node is in JSON: an object with its kind first, then its place where that is written, and then its members.
-- Source: the syntax trees of GraphQL.js, version 16. That a place is the members `line` and `column` is this project's choice.
use Rattle.std.specs.Prelude.{◌≡◌, ℕ, ◌≤◌, List, [], ◌∷◌, Bool, ◌||◌, ◌&&◌, ◌==◌, nat_lt, Option, Some, None, if◌then◌else◌, codes, decimal}
use Rattle.graphql_parser.specs.types.Pos.{Pos}
use Rattle.graphql_parser.specs.types.Positioned.{Positioned}
use Rattle.graphql_json.specs.declared.place.Place.{Place}
use Rattle.graphql_json.specs.declared.place.Places.{Places}
use Rattle.graphql_json.specs.declared.place.Places.TheVariants.{LeftOut, Written}
use Rattle.json.specs.Json.{Json, number, string, array, object, Items, no_items, item, Members, no_members, member, value, max_depth, document}
use Rattle.json.specs.Lex.{tokens}
use Rattle.json.specs.Print.{print}
use Rattle.json.specs.Tree.{json_tokens, depth}

-- ---- places

-- a place as members, before others
abbrev pub pos_members : Pos → Members → Members
pos_members pos others = member (codes "line") (number (decimal pos.line)) (member (codes "column") (number (decimal pos.column)) others)

-- the place of a node, where places are written and it has one; 0:0 is no place of a text
abbrev pub place_members : Places → Option Pos → Members → Members
place_members LeftOut pos others = others
place_members Written None others = others
place_members Written (Some pos) others = if (pos.line == 0) && (pos.column == 0) then others else pos_members pos others

-- no place, for a node that the tree keeps none of
abbrev pub no_place : Places → Place
no_place places = record { places = places; pos = None }

-- another place, and none, for nodes of the same tree
abbrev pub at : Place → Pos → Place
at place pos = record { places = place.places; pos = Some pos }

abbrev pub nowhere : Place → Place
nowhere place = no_place place.places

-- A place is smaller than another: on an earlier line, or further left on the same line. It is then earlier in the text,
-- unless a carriage return without a line feed stands between the two, where the columns begin anew.
abbrev pub stands_before : Pos → Pos → Bool
stands_before a b = nat_lt a.line b.line || ((a.line == b.line) && nat_lt a.column b.column)

-- ---- nodes

-- an object with its kind first, then its place, and then its members
unfoldable pub node : List ℕ → Place → Members → Json
node kind place members = object (member (codes "kind") (string kind) (place_members place.places place.pos members))

-- a member for a part that may be missing
abbrev pub optional : {A : Type 0} → List ℕ → (A → Json) → Option A → Members → Members
optional key json None others = others
optional key json (Some part) others = member key (json part) others

-- the JSON of each part, in their order
abbrev pub items_of : {A : Type 0} → (A → Json) → List A → Items
items_of json [] = no_items
items_of json (part ∷ parts) = item (json part) (items_of json parts)

-- a part at its own place, and parts at theirs
abbrev pub placed_json : {A : Type 0} → (Place → A → Json) → Place → Positioned A → Json
placed_json json place part = json (at place part.pos) part.node

abbrev pub placed_list : {A : Type 0} → (Place → A → Json) → Place → List (Positioned A) → Json
placed_list json place parts = array (items_of (placed_json json place) parts)

-- a document of these definitions
abbrev pub document_node : Place → Items → Json
document_node place definitions = node (codes "Document") place (member (codes "definitions") (array definitions) no_members)

-- ---- texts

-- the text of a value, without blanks
abbrev pub json_text : Json → List ℕ
json_text value = print (json_tokens value)

-- Whatever reads this text by the grammar of JSON finds the tokens of the value, and no others; and the value itself,
-- if it allows lists and objects to nest as deep.
pub record ReadsBack (text : List ℕ) (json : Json) : Type 0 where
  pub in_tokens : tokens text ≡ json_tokens json
  pub in_value : (limit : ℕ) → depth json ≤ limit → value limit (tokens text) ≡ Some (json, [])
  pub in_document : depth json ≤ max_depth → document text ≡ Some json
