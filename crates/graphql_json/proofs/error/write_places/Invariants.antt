use Rattle.std.proofs.Common.{◌≡◌, ◌++◌}
use Rattle.graphql_parser.specs.errors.Errors.{error_places}
use Rattle.graphql_json.specs.nodes.Errors.{location_json}
use Rattle.graphql_json.specs.nodes.Nodes.{items_of}
use Rattle.json.specs.Tree.{items_tokens}
use Rattle.graphql_json.proofs.error.write_places.Given as goal

abbrev pub invariant-loop-pos : goal.invariant-loop-pos
invariant-loop-pos l =
    (goal.iterator-loop-pos).can_next l.pos-iterator
    × (goal.iterator-loop-pos).is_finite l.pos-iterator
    × (l.sheet ++ items_tokens (items_of location_json l.pos-iterator) ≡ l.initial.sheet ++ items_tokens (items_of location_json (error_places l.fn.error)))
