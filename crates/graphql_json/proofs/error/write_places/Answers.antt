use Rattle.std.proofs.Common.{◌++◌, length, ap, sym, ◌∙◌, refl}
use Rattle.graphql_parser.specs.errors.Errors.{error_places}
use Rattle.graphql_json.proofs.Errors.{located}
use Rattle.graphql_json.proofs.Steps.{as_tokens, whole_list}
use Rattle.graphql_json.specs.nodes.Errors.{location_json}
use Rattle.graphql_json.specs.nodes.Nodes.{items_of}
use Rattle.json.specs.Json.{no_items}
use Rattle.json.specs.Tree.{items_tokens}
use Rattle.graphql_json.proofs.error.write_places.Goals as goal

pub returns : goal.returns
returns c =
    let places = error_places c.args.error.now in
    let walked = ap (λ left. c.loop-pos.sheet ++ items_tokens (items_of location_json left)) (sym c.in-None.ensures.steps.0) in
    as_tokens (located places (λ none. c.if-len-eq0.false (c.len.ensures.value ∙ ap length c.positions.ensures ∙ none)))
    (whole_list (items_of location_json places) no_items c.in_ok-open_list.ensures (walked ∙ c.loop-pos.invariant.2) refl c.close_list.ensures)
