-- What a call in C tells of a text: a status, and up to two places.
-- Source: this project's choice.
use Rattle.std.specs.Prelude.{◌≡◌, ◌≤◌, ◌<◌, ◌⊎◌, ◌↔◌, ◌+◌, ℕ, List, [], ◌∷◌, Option, Some, None, Result, Ok, Err}
use Rattle.std.specs.Str.{IsUtf8}
use Rattle.graphql_tokens.specs.declared.pos.Pos.{Pos}
use Rattle.graphql_grammar.specs.declared.error.Error.{Error}
use Rattle.graphql_grammar.specs.declared.error.Error.TheVariants.{OutOfMemory}
use Rattle.graphql_memory.specs.Refusals.{HeapRefused}
use Rattle.graphql_memory.specs.declared.Memory.{Memory}
use Rattle.graphql_parser.specs.answers.Answers.{Answers}
use Rattle.graphql_parser.specs.answers.Language.{Language}
use Rattle.graphql_parser.specs.answers.Memory.{most_taken}
use Rattle.graphql_parser.specs.errors.Errors.{error_places}
use Rattle.graphql_parser.specs.notation.Limits.{Limits, IsAllowed}
use Rattle.graphql_parser.specs.tokens.Cuts.{IsCutInto}
use Rattle.graphql_parser.specs.tokens.Token.{Token}
use Rattle.graphql_parser_c.specs.Statuses.{number_of, status_of}
use Rattle.graphql_parser_c.specs.declared.lending.Room.{Room}
use Rattle.graphql_parser_c.specs.declared.lending.Text.{Text}
use Rattle.graphql_parser_c.specs.declared.lending.Told.{Told}
use Rattle.graphql_parser_c.specs.declared.status.Status.{Status}
use Rattle.graphql_parser_c.specs.declared.status.Status.TheVariants.{LimitTooLarge, NotUtf8}
use Rattle.graphql_parser_c.specs.declared.status.Status.TheVariants as status
use Rattle.graphql_parser_c.specs.declared.telling.Left.{Left}
use Rattle.graphql_parser_c.specs.declared.telling.Place.{Place}
use Rattle.graphql_parser_c.specs.declared.telling.Places.{Places}

-- ---- limits

-- the limits that a caller asks for by three numbers
abbrev pub limits_of : ℕ → ℕ → ℕ → Limits
limits_of selections values types = record { selections = selections; values = values; types = types }

-- ---- places

-- a place, or 0:0 where there is none
abbrev pub place_of : Option Pos → Place
place_of None = record { line = 0; column = 0 }
place_of (Some pos) = record { line = pos.line; column = pos.column }

abbrev pub nowhere : Places
nowhere = record { first = place_of None; second = place_of None }

-- the first two places of a list
abbrev pub first_two : List Pos → Places
first_two [] = nowhere
first_two (one ∷ []) = record { first = place_of (Some one); second = place_of None }
first_two (one ∷ two ∷ others) = record { first = place_of (Some one); second = place_of (Some two) }

-- the places that an answer names
abbrev pub places_of : {Document : Type 0} → Result Document Error → Places
places_of (Ok document) = nowhere
places_of (Err error) = first_two (error_places error)

-- ---- what is given back

-- the text is the caller's again, and what is told is told where there was room for it
abbrev pub IsBack : Text → Room → Told → Type 0
IsBack text room told = (told.life ≡ text.life) × (told.at ≡ room.at)

-- ---- what is left of a budget

-- A text of so many bytes took nothing beyond the budget, and no more than such a text costs; its answer is that memory ran out only if
-- the heap denied it, or the budget was less than that.
abbrev pub IsSpent : {Document : Type 0} → ℕ → Result Document Error → Memory → Memory → Type 0
IsSpent bytes answer before after = (after.left ≤ before.left) × (before.left ≤ after.left + most_taken bytes)
    × (answer ≡ Err OutOfMemory → HeapRefused before after ⊎ (before.left < most_taken bytes))

-- What a call leaves of a budget: no more than it was, and no less than a text of so many bytes leaves. If the status says that memory
-- ran out, the heap denied a request, or the budget was less than such a text may cost; if it says anything else, no denial is reported.
pub record IsLeft (budget bytes number : ℕ) (left : Left) : Type 0 where
  pub at_most : left.bytes ≤ budget
  pub at_least : budget ≤ left.bytes + most_taken bytes
  pub refused : number ≡ number_of status.OutOfMemory → (left.heap_denied ≡ 1) ⊎ (budget < most_taken bytes)
  pub only : (left.heap_denied ≡ 0) ⊎ ((left.heap_denied ≡ 1) × (number ≡ number_of status.OutOfMemory))

-- ---- what is told

-- the parser's answer for a text, in a language and within limits
abbrev pub AnswersText : {D Document : Type 0} → Language D Document → Limits → List ℕ → Result Document Error → Type 0
AnswersText language limits text answer = (tokens : List Token) → IsCutInto text tokens → Answers language limits tokens answer

-- why a text isn't read: a limit is too large, or else the text isn't UTF-8
abbrev pub IsUnread : Limits → List ℕ → Status → Type 0
IsUnread limits text status = (¬ IsAllowed limits × (status ≡ LimitTooLarge)) ⊎ (IsAllowed limits × (¬ IsUtf8 text) × (status ≡ NotUtf8))

-- What a call tells of a text, in a language and within limits: the number of a status, and places. The status says that a
-- limit is too large, or else that the text isn't UTF-8, exactly where that is so, and no place is told then. Where the text
-- can be read, both are those of the parser's answer for the tokens of the text.
pub record IsTold {D Document : Type 0} (language : Language D Document) (limits : Limits) (text : List ℕ) (number : ℕ) (places : Places) : Type 0 where
  pub too_large : (number ≡ number_of LimitTooLarge) ↔ (¬ IsAllowed limits)
  pub not_utf8 : (number ≡ number_of NotUtf8) ↔ (IsAllowed limits × (¬ IsUtf8 text))
  pub unread : ¬ (IsAllowed limits × IsUtf8 text) → places ≡ nowhere
  pub answer : IsAllowed limits → IsUtf8 text → (tokens : List Token) → IsCutInto text tokens
      → (answer : Result Document Error) × Answers language limits tokens answer × (number ≡ number_of (status_of answer)) × (places ≡ places_of answer)
