use Rattle.std.proofs.Common.{ap, codes}
use Rattle.graphql_json.proofs.Schemas.{next_root}
use Rattle.graphql_json.proofs.Steps.{next, as_tokens}
use Rattle.graphql_json.specs.inner.Written.{member_tokens}
use Rattle.graphql_json.specs.nodes.Nodes.{items_of}
use Rattle.graphql_json.specs.nodes.Schemas.{root_json}
use Rattle.json.specs.Json.{array}
use Rattle.graphql_json.proofs.schema.write_roots.Goals as goal

pub returns : goal.returns
returns c =
    let place = c.args.place in
    as_tokens (ap (λ roots. member_tokens (codes "operationTypes") (array (items_of (root_json place) roots))) c.ordered_roots-roots.ensures)
    (next c.in_ok-open_list.ensures (next_root place _ _ _ c.in_ok-write_root.ensures (next_root place _ _ _ c.in_ok-write_root-2.ensures (next_root place _ _ _ c.in_ok-write_root-3.ensures c.close_list.ensures))))
