-- What a text that is written anew has in common with the one that it replaces, and a printed tree with the text that it is of.
-- Source: this project's choice.
use Rattle.std.specs.Prelude.{ℕ, List, None}
use Rattle.graphql_parser.specs.notation.Limits.{Limits}
use Rattle.graphql_parser.specs.answers.Language.{Language as Described}
use Rattle.graphql_parser.specs.requests.Documents.{document_of as request_of}
use Rattle.graphql_parser.specs.requests.Requests.{requests}
use Rattle.graphql_parser.specs.schemas.Documents.{document_of as schema_of}
use Rattle.graphql_parser.specs.schemas.Schemas.{schemas}
use Rattle.graphql_printer.specs.Printed.{IsDocumentOf, MakesTheSame}
use Rattle.graphql_printer.specs.Rewritten.{MeanTheSame}
use Rattle.graphql_report.specs.declared.fronts.Language.{Language}
use Rattle.graphql_report.specs.declared.fronts.Language.TheVariants.{Requests, Schemas}

-- the language whose lists of definitions lack nothing, whatever they are: of requests, fragments alone are documents too
abbrev pub lacking_nothing : {D Document : Type 0} → Described D Document → Described D Document
lacking_nothing language = record {
  definitions = language.definitions;
  placeless = language.placeless;
  breach = language.breach;
  lack = λ ds. None;
  makes = language.makes;
}

-- read as this, the two texts mean the same
abbrev pub MeanTheSameAs : Language → Limits → List ℕ → List ℕ → Type 0
MeanTheSameAs Requests limits text other = MeanTheSame (lacking_nothing requests) limits text other
MeanTheSameAs Schemas limits text other = MeanTheSame schemas limits text other

-- The first text has one tree within the limits, which is sound. The other has one within them too, which is sound, and makes the
-- same document, but for places.
abbrev pub Prints : {D Document T : Type 0} → Described D Document → (List D → T) → Limits → List ℕ → List ℕ → Type 0
Prints {D} {Document} language made_of limits text printed =
    (document : Document) × (of : IsDocumentOf language limits text document) × MakesTheSame language made_of limits of.definitions printed

-- the second text is the document of the first, which is read as this
abbrev pub PrintsAs : Language → Limits → List ℕ → List ℕ → Type 0
PrintsAs Requests limits text printed = Prints requests request_of limits text printed
PrintsAs Schemas limits text printed = Prints schemas schema_of limits text printed
