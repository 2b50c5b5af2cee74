use Rattle.std.proofs.Common.{Ok}
use Rattle.graphql_parser.specs.Checking.{checked}
use Rattle.graphql_grammar.specs.answers.Reads.{ReadsText}
use Rattle.graphql_schemas.specs.grammar.Schemas.{schemas}
use Rattle.graphql_schemas.specs.reading.SchemaFile.{definitions_at}
use Rattle.graphql_schemas.proofs.SchemaFileProductions.{schemas-read-by}
use Rattle.graphql_printer.proofs.Accepted.{accepted}
use Rattle.graphql_printer.proofs.Meaning.{laid_out_means_the_same}
use Rattle.graphql_printer.proofs.formatting.format_schema.Goals as goal

pub format_tokens-requires : goal.format_tokens-requires
format_tokens-requires c =
    let reads : ReadsText (checked schemas) c.args.limits c.args.text.now (Ok tt) = c.in_ok-check_schema_limited.ensures.reads in
    accepted schemas c.args.limits c.args.text.now reads

pub returns-clause-meaning : goal.returns-clause-meaning
returns-clause-meaning c =
    let reads : ReadsText (checked schemas) c.args.limits c.args.text.now (Ok tt) = c.in_ok-check_schema_limited.ensures.reads in
    laid_out_means_the_same schemas definitions_at schemas-read-by c.args.limits c.args.text.now c.format_tokens.result reads c.format_tokens.ensures.laid_out
