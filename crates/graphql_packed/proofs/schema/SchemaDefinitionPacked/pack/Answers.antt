use Rattle.graphql_packed.proofs.Steps.{next, own_option}
use Rattle.graphql_packed.specs.packed.Bytes.{text_bytes}
use Rattle.graphql_packed.proofs.schema.SchemaDefinitionPacked.pack.Goals as goal

pub returns : goal.returns
returns c =
    let schema = c.args.self.now in
    let query = own_option text_bytes schema.query c.in_ok-optional-2.ensures in
    let mutation = own_option text_bytes schema.mutation c.in_ok-optional-3.ensures in
    let subscription = own_option text_bytes schema.subscription c.optional-4.ensures in
    next (next (next (next (next c.in_ok-optional.ensures c.in_ok-flag.ensures) c.in_ok-nodes.ensures) query) mutation) subscription
