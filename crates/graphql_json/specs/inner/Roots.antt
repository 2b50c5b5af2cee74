-- The roots of a schema, while they are put in order.
use Rattle.std.specs.Prelude.{List, [], ◌∷◌, Option, Some, None, Bool, false}
use Rattle.graphql_parser.specs.trees.Parts.{Name}
use Rattle.graphql_parser.specs.types.OperationType.{OperationType}
use Rattle.graphql_parser.specs.types.Positioned.{Positioned}
use Rattle.graphql_json.specs.declared.place.Place.{Place}
use Rattle.graphql_json.specs.nodes.Nodes.{stands_before}
use Rattle.graphql_json.specs.nodes.Schemas.{Root, root_json}
use Rattle.json.specs.Token.{Token}
use Rattle.json.specs.Tree.{json_tokens}

-- a root that may be missing, and others
abbrev pub and_then : OperationType → Option (Positioned Name) → List Root → List Root
and_then kind None roots = roots
and_then kind (Some name) roots = (kind, name) ∷ roots

-- both are there, and the place of the first is smaller
abbrev pub goes_before : Option (Positioned Name) → Option (Positioned Name) → Bool
goes_before (Some a) (Some b) = stands_before a.pos b.pos
goes_before (Some a) None = false
goes_before None b = false

-- the tokens of a root that may be missing
abbrev pub root_tokens : Place → OperationType → Option (Positioned Name) → List Token
root_tokens place kind None = []
root_tokens place kind (Some name) = json_tokens (root_json place (kind, name))
