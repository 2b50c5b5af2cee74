-- The fragments of a request from an index on, and their JSON.
use Rattle.std.proofs.Common.{◌≡◌, List, ◌∷◌, true, false, ap, if◌then◌else◌}
use Rattle.graphql_parser.specs.types.Pos.{Pos}
use Rattle.graphql_json.specs.declared.place.Place.{Place}
use Rattle.graphql_json.specs.nodes.Nodes.{stands_before}
use Rattle.graphql_json.specs.nodes.Requests.{Fragment, after_fragments, fragment_json}
use Rattle.json.specs.Json.{Json, Items, item}

pub after_earlier : (place : Place) (pos : Pos) (definition : Json) (others : List Fragment → Items) (f : Fragment) (fs : List Fragment) → stands_before f.1.pos pos ≡ true
    → after_fragments place pos definition others (f ∷ fs) ≡ item (fragment_json place f) (after_fragments place pos definition others fs)
after_earlier place pos definition others f fs e = ap (λ b. if b then item (fragment_json place f) (after_fragments place pos definition others fs) else item definition (others (f ∷ fs))) e

pub before_later : (place : Place) (pos : Pos) (definition : Json) (others : List Fragment → Items) (f : Fragment) (fs : List Fragment) → stands_before f.1.pos pos ≡ false
    → after_fragments place pos definition others (f ∷ fs) ≡ item definition (others (f ∷ fs))
before_later place pos definition others f fs e = ap (λ b. if b then item (fragment_json place f) (after_fragments place pos definition others fs) else item definition (others (f ∷ fs))) e
