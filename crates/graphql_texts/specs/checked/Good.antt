-- When a text is good: its tokens have their one tree within the limits, which breaks no rule and in which nothing is missing, but
-- for an operation if requests may hold fragments alone.
-- Source: this project's choice.
use Rattle.std.specs.Prelude.{◌≡◌, ◌⊎◌, ℕ, Bool, true, List, None, Some}
use Rattle.graphql_parser.specs.tokens.Cuts.{IsCutInto}
use Rattle.graphql_parser.specs.tokens.Token.{Token}
use Rattle.graphql_parser.specs.notation.Limits.{Limits}
use Rattle.graphql_parser.specs.answers.Answers.{AreTheDefinitions, AreUnbroken}
use Rattle.graphql_parser.specs.answers.Language.{Language as Described}
use Rattle.graphql_parser.specs.requests.Requests.{requests}
use Rattle.graphql_parser.specs.schemas.Schemas.{schemas}
use Rattle.graphql_parser.specs.types.Error.TheVariants.{MissingOperation}
use Rattle.graphql_report.specs.declared.fronts.Language.{Language}
use Rattle.graphql_report.specs.declared.fronts.Language.TheVariants.{Requests, Schemas}

-- These tokens have one tree, and it is a document: it breaks no rule, and nothing is missing, or an operation alone if
-- `fragments` says that it may.
pub record HasDocument {D Document : Type 0} (fragments : Bool) (language : Described D Document) (limits : Limits) (tokens : List Token) : Type 0 where
  pub definitions : List D
  pub tree : AreTheDefinitions language limits tokens definitions
  pub unbroken : AreUnbroken language definitions
  pub complete : (language.lack definitions ≡ None) ⊎ ((fragments ≡ true) × (language.lack definitions ≡ Some MissingOperation))

abbrev pub HasDocumentOf : Bool → Language → Limits → List Token → Type 0
HasDocumentOf fragments Requests limits tokens = HasDocument fragments requests limits tokens
HasDocumentOf fragments Schemas limits tokens = HasDocument fragments schemas limits tokens

-- the text, read as this, is good
abbrev pub IsGoodText : Bool → Language → Limits → List ℕ → Type 0
IsGoodText fragments language limits text = (tokens : List Token) → IsCutInto text tokens → HasDocumentOf fragments language limits tokens
