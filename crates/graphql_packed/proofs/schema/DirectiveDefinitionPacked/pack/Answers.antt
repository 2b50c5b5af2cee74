use Rattle.graphql_packed.proofs.Steps.{next, own_list}
use Rattle.graphql_packed.specs.packed.Schemas.{location_bytes}
use Rattle.graphql_packed.proofs.schema.DirectiveDefinitionPacked.pack.Goals as goal

pub returns : goal.returns
returns c =
    let locations = own_list location_bytes c.args.self.now.locations.items c.nodes-2.ensures in
    next (next (next (next c.in_ok-optional.ensures c.in_ok-node.ensures) c.in_ok-nodes.ensures) c.in_ok-flag.ensures) locations
