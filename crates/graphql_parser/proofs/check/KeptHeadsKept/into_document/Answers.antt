use Rattle.std.proofs.Common.{map, ap, ◌∙◌, subst}
use Rattle.graphql_grammar.specs.reading.DocumentOf.{IsDocumentOf}
use Rattle.graphql_requests.specs.grammar.Requests.{requests}
use Rattle.graphql_parser.specs.Checking.{checked}
use Rattle.graphql_parser.specs.RequestHeads.{head_of, head_tree}
use Rattle.graphql_parser.proofs.Documents.{document-of}
use Rattle.graphql_parser.proofs.RequestHeads.{looks-at-heads}
use Rattle.graphql_parser.proofs.check.KeptHeadsKept.into_document.Goals as goal

pub returns-clause-document : goal.returns-clause-document
returns-clause-document c ds h =
    document-of (checked requests) head_of looks-at-heads ds c.judge.result
    (subst (λ hs. IsDocumentOf (checked requests) hs c.judge.result) (ap (map head_tree) c.as_slice.ensures ∙ h) c.judge.ensures.document)

pub returns-clause-refused : goal.returns-clause-refused
returns-clause-refused c ds h is = c.judge.ensures.refused is
