use Rattle.std.proofs.Common.{string_bytes}
use Rattle.std.proofs.lemmas.Str.{IsUtf8-string_bytes}
use Rattle.graphql_parser.specs.requests.Documents.{document_of}
use Rattle.graphql_parser.specs.requests.Requests.{requests}
use Rattle.graphql_requests.specs.reading.Request.{definitions_at}
use Rattle.graphql_requests.proofs.RequestProductions.{requests-read-by}
use Rattle.graphql_texts.proofs.PrintedTrees.{prints_then}
use Rattle.graphql_texts.proofs.rewriting.printed_request.Goals as goal

pub returns : goal.returns
returns c =
    let printed = c.in_ok-printed.printed in
    let new = c.push.new.self in
    prints_then requests definitions_at requests-read-by document_of c.args.limits c.args.text.now c.in_ok-document.document (string_bytes printed) (string_bytes new)
    c.utf8.text (IsUtf8-string_bytes printed) (IsUtf8-string_bytes new) c.in_ok-document.ensures.reads c.in_ok-printed.ensures.printed c.in_ok-push.ensures.bytes
