-- What a call in C hands over: the JSON of the parser's one answer.
-- Source: this project's choice.
use Rattle.std.specs.Prelude.{◌≡◌, ◌⊎◌, ℕ, List, Bool, true, false, Some, Result, Ok, Err}
use Rattle.std.specs.Ptr.{null_ptr}
use Rattle.std.specs.declared.alloc.AllocError.{AllocError}
use Rattle.graphql_grammar.specs.declared.error.Error.{Error}
use Rattle.graphql_json.specs.declared.place.Places.{Places}
use Rattle.graphql_json.specs.declared.place.Places.TheVariants as places
use Rattle.graphql_json.specs.nodes.Errors.{error_value}
use Rattle.graphql_json.specs.nodes.Nodes.{json_text}
use Rattle.graphql_parser.specs.answers.Answers.{Answers}
use Rattle.graphql_parser.specs.answers.Language.{Language}
use Rattle.graphql_parser.specs.errors.Errors.{error_text, error_places}
use Rattle.graphql_parser.specs.notation.Limits.{Limits}
use Rattle.graphql_parser.specs.tokens.Cuts.{IsCutInto}
use Rattle.graphql_parser.specs.tokens.Token.{Token}
use Rattle.graphql_parser_c.specs.Statuses.{number_of, status_of}
use Rattle.graphql_parser_c.specs.declared.block.Block.{Block}
use Rattle.graphql_parser_c.specs.declared.status.Status.TheVariants.{OutOfMemory, NotUtf8, LimitTooLarge}
use Rattle.json.specs.Json as json

-- the number of a status that says nothing of a text
abbrev pub SaysNothing : ℕ → Type 0
SaysNothing number = (number ≡ number_of OutOfMemory) ⊎ (number ≡ number_of NotUtf8) ⊎ (number ≡ number_of LimitTooLarge)

-- whether a caller asked for the places of nodes
abbrev pub places_asked : Bool → Places
places_asked true = places.Written
places_asked false = places.LeftOut

-- the JSON of an answer: that of its tree, or that of its error
abbrev pub answer_value : {Document : Type 0} → (Document → json.Json) → Result Document Error → json.Json
answer_value value (Ok document) = value document
answer_value value (Err error) = error_value (error_text error) (error_places error)

-- nothing to give back: null, and no bytes
abbrev pub IsNothing : Block → Type 0
IsNothing block = (block.start ≡ null_ptr) × (block.length ≡ 0)

-- where the status says something of the text, what was made is handed over; else nothing is
abbrev pub IsHanded : Result Block AllocError → ℕ → Block → Type 0
IsHanded made number block = (SaysNothing number → IsNothing block) × (¬ SaysNothing number → made ≡ Ok block)

-- What a call hands over of a text, in a language and within limits: nothing, where the status says nothing of the text, and
-- else what `Hands` says of the parser's answer for the tokens of the text. What was there before the call makes no difference.
pub record HandsOver {D Document : Type 0} (language : Language D Document) (Hands : Result Document Error → Block → Type 0) (limits : Limits) (text : List ℕ) (number : ℕ) (handed : Block) : Type 0 where
  pub nothing : SaysNothing number → IsNothing handed
  pub answer : ¬ SaysNothing number → (tokens : List Token) → IsCutInto text tokens
      → (answer : Result Document Error) × Answers language limits tokens answer × (number ≡ number_of (status_of answer)) × Hands answer handed

-- the JSON of the answer is handed over, where `value` gives that of a document
abbrev pub IsAnswered : {D Document : Type 0} → Language D Document → (Document → json.Json) → Limits → List ℕ → ℕ → Block → Type 0
IsAnswered language value = HandsOver language (λ answer handed. handed.text ≡ Some (json_text (answer_value value answer)))
