use Rattle.std.proofs.Common.{refl}
use Rattle.graphql_tokens.specs.tokens.Token.{left}
use Rattle.graphql_schemas.proofs.Laws.{lawful-answer}
use Rattle.graphql_schemas.proofs.SchemaFileProductions.{schemas-read-by}
use Rattle.graphql_schemas.proofs.parse_schema_from.Goals as goal

pub read_document-requires : goal.read_document-requires
read_document-requires c k = ((refl, tt), (c.requires, schemas-read-by))

pub returns-clause-lawful : goal.returns-clause-lawful
returns-clause-lawful c = lawful-answer c.default.result (left c.args.tokens.now) _ c.read_document.ensures.reads.answer
