use Rattle.graphql_reading.specs.grammar.Limits.{default_limits}
use Rattle.graphql_schemas.proofs.Laws.{none-described}
use Rattle.graphql_parser.proofs.check.schemas.check_schema.Goals as goal

pub returns-clause-former_schemas : goal.returns-clause-former_schemas
returns-clause-former_schemas c = none-described default_limits
