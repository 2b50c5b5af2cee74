use Rattle.graphql_schemas.proofs.FieldProductions.{takes-field_definition}
use Rattle.graphql_schemas.proofs.types.read_members.Goals as goal

pub maybe_bracketed-requires-clause-takes : goal.maybe_bracketed-requires-clause-takes
maybe_bracketed-requires-clause-takes c = takes-field_definition c.args.limits
