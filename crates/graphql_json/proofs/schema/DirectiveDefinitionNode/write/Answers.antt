use Rattle.std.proofs.Common.{ap, codes}
use Rattle.graphql_json.proofs.Schemas.{same_placed}
use Rattle.graphql_json.proofs.Steps.{next, as_tokens, whole_described}
use Rattle.graphql_json.specs.nodes.Nodes.{placed_list}
use Rattle.graphql_json.specs.nodes.Schemas.{location_json}
use Rattle.json.specs.Json.{no_members, member}
use Rattle.json.specs.Tree.{members_tokens}
use Rattle.graphql_json.proofs.schema.DirectiveDefinitionNode.write.Goals as goal

pub returns : goal.returns
returns c =
    let locations = as_tokens (ap (λ locations. members_tokens (member (codes "locations") (placed_list location_json c.args.place locations) no_members)) (same_placed c.args.self.now.locations.items)) c.last.ensures in
    whole_described _ _ _ _ _ _ c.in_ok-begin_described.ensures (next c.in_ok-nodes.ensures (next c.in_ok-boolean.ensures locations))
