-- What the calls promise that print a document as text.
-- Source: this project's choice.
use Rattle.std.specs.Prelude.{◌≡◌, ℕ, List}
use Rattle.std.specs.Str.{IsUtf8}
use Rattle.graphql_tokens.specs.tokens.Cuts.{IsCutInto}
use Rattle.graphql_tokens.specs.tokens.Token.{Token}
use Rattle.graphql_reading.specs.grammar.Limits.{Limits}
use Rattle.graphql_grammar.specs.answers.Answers.{AreTheDefinitions}
use Rattle.graphql_grammar.specs.answers.Language.{Language}
use Rattle.graphql_printer.specs.Rewritten.{AreSound}

-- The document is that of this text: the text has one tree within the limits, which is sound, and makes the document.
pub record IsDocumentOf {D Document : Type 0} (language : Language D Document) (limits : Limits) (text : List ℕ) (document : Document) : Type 0 where
  pub utf8 : IsUtf8 text
  pub tokens : List Token
  pub cut : IsCutInto text tokens
  pub definitions : List D
  pub tree : AreTheDefinitions language limits tokens definitions
  pub sound : AreSound language definitions
  pub made : language.makes definitions document

-- The document is that of this text but for places: it is made of definitions that are, but for their places, those of a document of
-- the text. So it may be made by hand, with whatever places.
pub record IsDocumentButForPlaces {D Document : Type 0} (language : Language D Document) (limits : Limits) (text : List ℕ) (document : Document) : Type 0 where
  pub other : Document
  pub of : IsDocumentOf language limits text other
  pub definitions : List D
  pub made : language.makes definitions document
  pub same : language.placeless definitions ≡ language.placeless of.definitions

-- The text has one tree within the limits, which is sound, and makes what these definitions make, but for places.
pub record MakesTheSame {D Document T : Type 0} (language : Language D Document) (made_of : List D → T) (limits : Limits) (definitions : List D) (text : List ℕ) : Type 0 where
  pub other_definitions : List D
  pub tree : (tokens : List Token) → IsCutInto text tokens → AreTheDefinitions language limits tokens other_definitions
  pub sound : AreSound language other_definitions
  pub same : made_of (language.placeless definitions) ≡ made_of (language.placeless other_definitions)

-- whatever text the document is of but for places, within whatever limits, the printed text makes the same
abbrev pub IsPrinted : {D Document T : Type 0} → Language D Document → (List D → T) → Document → List ℕ → Type 0
IsPrinted language made_of document printed =
    (limits : Limits) (text : List ℕ) (like : IsDocumentButForPlaces language limits text document) → MakesTheSame language made_of limits like.definitions printed
