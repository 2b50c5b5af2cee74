use Rattle.std.proofs.Common.{refl, subst}
use Rattle.graphql_tokens.specs.tokens.Token.{left}
use Rattle.graphql_schemas.specs.grammar.Schemas.{schemas}
use Rattle.graphql_reading.specs.grammar.Limits.{Limits}
use Rattle.graphql_parser.specs.Checking.{IsAsParsed}
use Rattle.graphql_parser.proofs.Checking.{as-parsed}
use Rattle.graphql_parser.proofs.SchemaBreaches.{schema-checks-read-by}
use Rattle.graphql_parser.proofs.check.schemas.check_schema_from.Goals as goal

pub read_document-requires : goal.read_document-requires
read_document-requires c = λ k. ((refl, tt), (c.requires, schema-checks-read-by))

pub returns-clause-as_parsed : goal.returns-clause-as_parsed
returns-clause-as_parsed c =
    subst (λ (limits : Limits). IsAsParsed schemas limits (left c.args.tokens.now) c.read_document.result) c.default.ensures (as-parsed schemas c.default.result (left c.args.tokens.now) c.read_document.result c.read_document.ensures.reads.answer)
