use Rattle.std.proofs.Common.{Ok}
use Rattle.graphql_parser.specs.Checking.{checked}
use Rattle.graphql_grammar.specs.answers.Reads.{ReadsText}
use Rattle.graphql_requests.specs.grammar.Requests.{requests}
use Rattle.graphql_requests.specs.reading.Request.{definitions_at}
use Rattle.graphql_requests.proofs.RequestProductions.{requests-read-by}
use Rattle.graphql_printer.proofs.Accepted.{accepted}
use Rattle.graphql_printer.proofs.Meaning.{minified_means_the_same}
use Rattle.graphql_printer.proofs.minify_query.Goals as goal

pub minify_tokens-requires : goal.minify_tokens-requires
minify_tokens-requires c =
    let reads : ReadsText (checked requests) c.args.limits c.args.text.now (Ok tt) = c.in_ok-check_query_limited.ensures.reads in
    accepted requests c.args.limits c.args.text.now reads

pub returns-clause-meaning : goal.returns-clause-meaning
returns-clause-meaning c =
    let reads : ReadsText (checked requests) c.args.limits c.args.text.now (Ok tt) = c.in_ok-check_query_limited.ensures.reads in
    minified_means_the_same requests definitions_at requests-read-by c.args.limits c.args.text.now c.minify_tokens.result reads c.minify_tokens.ensures.minified
