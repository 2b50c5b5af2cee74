use Rattle.std.proofs.Common.{◌≡◌, ◌++◌, drop}
use Rattle.graphql_json.specs.nodes.Nodes.{items_of, placed_json}
use Rattle.graphql_json.specs.nodes.Values.{named_type_json}
use Rattle.json.specs.Tree.{items_tokens}
use Rattle.graphql_json.proofs.schema.write_named_types.Given as goal

abbrev pub invariant-loop-name : goal.invariant-loop-name
invariant-loop-name l =
    let rest = items_tokens (items_of (placed_json named_type_json l.place) (drop l.name-index l.name-items)) in
    let all = items_tokens (items_of (placed_json named_type_json l.place) l.name-items) in
    l.sheet ++ rest ≡ l.initial.sheet ++ all
