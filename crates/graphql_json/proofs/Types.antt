-- The JSON of types that may not be null.
use Rattle.std.proofs.Common.{◌≡◌, true, false, codes, refl}
use Rattle.graphql_syntax.specs.declared.types.BaseType.{BaseType, Named, List'}
use Rattle.graphql_parser.specs.trees.TypeTree.{base_tree}
use Rattle.graphql_json.specs.declared.place.Place.{Place}
use Rattle.graphql_json.specs.nodes.Nodes.{node}
use Rattle.graphql_json.specs.nodes.Values.{type_json}
use Rattle.json.specs.Json.{no_members, member}

pub non_null : (place : Place) (base : BaseType) → type_json place (base_tree base false) ≡ node (codes "NonNullType") place (member (codes "type") (type_json place (base_tree base true)) no_members)
non_null place (Named name) = refl
non_null place (List' p base inner) = refl
