-- What the check of a text tells; and what its error tells: whether the text can be completed, where its end stands at a
-- place of its own, and whether it has a tree.
-- Source: this project's choice.
use Rattle.std.specs.Prelude.{◌≡◌, ◌≢◌, ◌↔◌, ◌⊎◌, ℕ, List, [], ◌++◌, drop, codes, Bool, true, false, IsTrue, Option, Some, None, string_bytes, Result, Ok, Err}
use Rattle.std.specs.Str.{chars, IsCharBoundary}
use Rattle.std.specs.declared.alloc.AllocError.{AllocError}
use Rattle.graphql_tokens.specs.declared.lexer.Token.{Token as LentToken}
use Rattle.graphql_tokens.specs.declared.pos.Pos.{Pos}
use Rattle.graphql_tokens.specs.tokens.Cuts.{IsCutInto}
use Rattle.graphql_tokens.specs.declared.lexer.TokenKind.TheVariants.{Fault}
use Rattle.graphql_tokens.specs.tokens.Token.{Bare, Token}
use Rattle.graphql_reading.specs.grammar.Limits.{Limits}
use Rattle.graphql_grammar.specs.answers.Answers.{TokenFor}
use Rattle.graphql_grammar.specs.answers.Reads.{ReadsText}
use Rattle.graphql_grammar.specs.declared.error.Error.{Error}
use Rattle.graphql_grammar.specs.declared.error.Error.TheVariants.{Syntax, RecursionLimitExceeded, OutOfMemory}
use Rattle.graphql_grammar.specs.errors.Errors.{error_places, error_text}
use Rattle.graphql_requests.specs.grammar.Requests.{requests}
use Rattle.graphql_schemas.specs.grammar.Schemas.{schemas}
use Rattle.graphql_parser.specs.Checking.{checked}
use Rattle.graphql_report.specs.declared.findings.Finding.{Finding}
use Rattle.graphql_report.specs.declared.fronts.Language.{Language}
use Rattle.graphql_report.specs.reports.Findings.{first_of, status_of}
use Rattle.graphql_report.specs.declared.style.Style.{Style}
use Rattle.graphql_report.specs.reports.Faults.{IsToldOfFault, expects_value}
use Rattle.graphql_report.specs.reports.Hints.{IsExpectedWord, IsHintFor, word_of}
use Rattle.graphql_report.specs.reports.Offsets.{first_remark}
use Rattle.graphql_report.specs.reports.Reports.{IsShown, TellsLine}
use Rattle.graphql_report.specs.reports.Words.{found}
use Rattle.graphql_report.specs.declared.fronts.Language.TheVariants.{Requests, Schemas}

-- the result is that of the check of the language
abbrev pub ReadsAs : Language → Limits → List ℕ → Result (Unit {0}) Error → Type 0
ReadsAs Requests limits text result = ReadsText (checked requests) limits text result
ReadsAs Schemas limits text result = ReadsText (checked schemas) limits text result

-- whether the text can be completed
abbrev pub TellsFront : Error → Pos → Result Bool AllocError → Type 0
TellsFront error end (Err refused) = Unit {0}
TellsFront (Syntax message start stop) end (Ok answer) = IsTrue answer ↔ (start ≡ end)
TellsFront RecursionLimitExceeded end (Ok answer) = answer ≡ false
TellsFront OutOfMemory end (Ok answer) = ⊥
TellsFront broken end (Ok answer) = answer ≡ true

-- whether the text has a tree, which breaks a rule
abbrev pub TellsTree : Error → Result Bool AllocError → Type 0
TellsTree error (Err refused) = Unit {0}
TellsTree (Syntax message start stop) (Ok answer) = answer ≡ false
TellsTree RecursionLimitExceeded (Ok answer) = answer ≡ false
TellsTree OutOfMemory (Ok answer) = ⊥
TellsTree broken (Ok answer) = answer ≡ true

-- and the token is the one that its answer names
abbrev pub ReadsTo : Language → Limits → List ℕ → Result (Unit {0}) Error → Option LentToken → Type 0
ReadsTo Requests limits text result token = ReadsText (checked requests) limits text result × ((tokens : List Token) → IsCutInto text tokens → TokenFor (checked requests) limits tokens result token)
ReadsTo Schemas limits text result token = ReadsText (checked schemas) limits text result × ((tokens : List Token) → IsCutInto text tokens → TokenFor (checked schemas) limits tokens result token)

-- a text goes on with a hint, if with anything, which asks for this word, if for any
abbrev pub AddsHintFor : Option Pos → Language → Bare → List (List ℕ) → List ℕ → List ℕ → Option (List ℕ) → Type 0
AddsHintFor unclosed language token names old new asked = (more : List ℕ) × (new ≡ old ++ more) × IsHintFor unclosed language token names more asked

abbrev pub AddsHint : Language → Bare → List (List ℕ) → List ℕ → List ℕ → Option (List ℕ) → Type 0
AddsHint language token names old new asked = AddsHintFor None language token names old new asked

-- a text goes on with this one
abbrev pub Adds : List ℕ → List ℕ → List ℕ → Type 0
Adds more old new = new ≡ old ++ more

-- it goes on with the word that was meant, which is this one; or with nothing, if there is none
abbrev pub AddsMeant : List ℕ → List ℕ → List ℕ → Option (List ℕ) → Type 0
AddsMeant word old new asked = ((word ≡ []) × (new ≡ old) × (asked ≡ None)) ⊎ ((word ≢ []) × (new ≡ old ++ (codes " (did you mean \"" ++ word ++ codes "\"?)")) × (asked ≡ Some word))

-- no word, or one that is expected
abbrev pub IsGuess : List (List ℕ) → List ℕ → Type 0
IsGuess names word = (word ≡ []) ⊎ IsExpectedWord names word

-- what was found is told, or what is wrong
abbrev pub IsWrong : List ℕ → List (List ℕ) → Token → List ℕ → List ℕ → Type 0
IsWrong text names token old new =
    (wrong : List ℕ) × (new ≡ old ++ wrong) × ((token.bare.kind ≡ Fault → ⊥) → wrong ≡ codes "found " ++ found token.bare)
    × (token.bare.kind ≡ Fault → IsCharBoundary text token.start → IsToldOfFault (expects_value names) (chars (drop token.start text)) wrong)

-- what a finding says of an error that names no refused token
abbrev pub TellsBreach : Error → Finding → Type 0
TellsBreach error finding = (finding.place ≡ first_of (error_places error)) × (finding.end ≡ None) × (finding.status.now ≡ status_of error) × (word_of finding.meant ≡ None) × (string_bytes finding.message ≡ error_text error ++ first_remark error)

-- ---- parts of a report

-- a text goes on with a message, as it is shown
abbrev pub AddsMessage : Style → List ℕ → List ℕ → List ℕ → Type 0
AddsMessage style message old new = (shown : List ℕ) × IsShown style message shown × (new ≡ old ++ shown)

-- a report goes on with a place and what is said of it
abbrev pub AddsPart : Style → List ℕ → Pos → List ℕ → List ℕ → List ℕ → Type 0
AddsPart style file place message old new = (part : List ℕ) × TellsLine style file place message part × (new ≡ old ++ part)
