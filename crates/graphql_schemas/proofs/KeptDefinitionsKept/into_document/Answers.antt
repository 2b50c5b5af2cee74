use Rattle.std.proofs.Common.{subst}
use Rattle.graphql_grammar.specs.reading.DocumentOf.{IsDocumentOf}
use Rattle.graphql_schemas.specs.grammar.Schemas.{schemas}
use Rattle.graphql_schemas.proofs.KeptDefinitionsKept.into_document.Goals as goal

pub returns-clause-document : goal.returns-clause-document
returns-clause-document c ds h = subst (λ ds. IsDocumentOf schemas ds c.document_of.result) h c.document_of.ensures.document
