use Rattle.std.proofs.Common.{string_bytes}
use Rattle.std.proofs.lemmas.Str.{IsUtf8-string_bytes}
use Rattle.graphql_parser.specs.schemas.Documents.{document_of}
use Rattle.graphql_parser.specs.schemas.Schemas.{schemas}
use Rattle.graphql_schemas.specs.reading.SchemaFile.{definitions_at}
use Rattle.graphql_schemas.proofs.SchemaFileProductions.{schemas-read-by}
use Rattle.graphql_texts.proofs.PrintedTrees.{prints_then}
use Rattle.graphql_texts.proofs.rewriting.printed_schema.Goals as goal

pub returns : goal.returns
returns c =
    let printed = c.in_ok-printed.printed in
    let new = c.push.new.self in
    prints_then schemas definitions_at schemas-read-by document_of c.args.limits c.args.text.now c.in_ok-document.document (string_bytes printed) (string_bytes new)
    c.utf8.text (IsUtf8-string_bytes printed) (IsUtf8-string_bytes new) c.in_ok-document.ensures.reads c.in_ok-printed.ensures.printed c.in_ok-push.ensures.bytes
