-- What a finding says of an error: where it stands, its status and its message.
-- Source: this project's choice.
use Rattle.std.specs.Prelude.{◌≡◌, ◌⊎◌, ℕ, ◌+◌, ◌-◌, List, [], ◌∷◌, ◌++◌, length, take, drop, Option, Some, None, MatchOption, codes, string_bytes}
use Rattle.std.specs.Fmt.{decimal}
use Rattle.std.specs.Str.{chars}
use Rattle.graphql_tokens.specs.declared.lexer.TokenKind.TheVariants.{Fault}
use Rattle.graphql_tokens.specs.declared.pos.Pos.{Pos}
use Rattle.graphql_tokens.specs.tokens.Place.{place, place_after}
use Rattle.graphql_tokens.specs.tokens.Token.{Token}
use Rattle.graphql_reading.specs.grammar.Limits.{Limits}
use Rattle.graphql_grammar.specs.declared.error.Error.{Error}
use Rattle.graphql_grammar.specs.declared.error.Error.TheVariants.{Syntax, RecursionLimitExceeded, MultipleRoots, MissingQueryRoot, MultipleOperations, OperationDuplicated, FragmentDuplicated, MissingOperation, OutOfMemory}
use Rattle.graphql_grammar.specs.errors.Errors.{error_places, error_text}
use Rattle.graphql_report.specs.declared.findings.Finding.{Finding}
use Rattle.graphql_report.specs.declared.fronts.Language.{Language}
use Rattle.graphql_report.specs.declared.rests.ReadFrom.{ReadFrom}
use Rattle.graphql_report.specs.reports.Escapes.{IsBadEscapeOf}
use Rattle.graphql_report.specs.reports.Expected.{AreExpected}
use Rattle.graphql_report.specs.reports.Faults.{IsToldOfFault, expects_value}
use Rattle.graphql_report.specs.reports.Hints.{IsHintFor, unclosed_part, word_of}
use Rattle.graphql_report.specs.reports.Offsets.{first_remark}
use Rattle.graphql_report.specs.reports.Words.{found, expected}

-- ---- places

-- the place of this text is that of the end of a part with which it begins
abbrev pub IsPlaceIn : List ℕ → Pos → Type 0
IsPlaceIn text place = (before after : List ℕ) × (chars text ≡ before ++ after) × (place ≡ place_after before)

-- the place is that of a backslash, with which an escape begins
abbrev pub IsEscapeIn : List ℕ → Pos → Type 0
IsEscapeIn text place = (before after : List ℕ) × (chars text ≡ before ++ 92 ∷ after) × (place ≡ place_after before)

-- A syntax error is told at its place, where the token that is the refused one has no bad escape; or at a backslash, with
-- which the first bad escape of that token begins.
abbrev pub IsToldAt : (Token → Type 0) → List ℕ → Pos → Pos → Type 0
IsToldAt is_refused text start told =
    ((told ≡ start) × ((token : Token) → is_refused token → (offset : ℕ) → ¬ (IsBadEscapeOf text token offset)))
    ⊎ (IsEscapeIn text told × ((token : Token) → is_refused token → (offset : ℕ) × IsBadEscapeOf text token offset × (told ≡ place text offset)))

-- ---- what is told of a refused token

-- What was found, or what is wrong where no token begins; then just what is expected after all that stands before it; and then
-- a hint, if any, which may ask for a word.
pub record TellsToken (language : Language) (limits : Limits) (text : List ℕ) (from : ReadFrom) (unclosed : Option Pos) (token : Token) (details : List ℕ) (asked : Option (List ℕ)) : Type 0 where
  pub names : List (List ℕ)
  pub are_expected : AreExpected language limits (take (token.start - from.offset) (drop from.offset text)) names
  pub wrong : List ℕ
  pub more : List ℕ
  pub is : details ≡ wrong ++ expected language token.bare names ++ more
  pub found : (token.bare.kind ≡ Fault → ⊥) → wrong ≡ codes "found " ++ found token.bare
  pub faults : token.bare.kind ≡ Fault → IsToldOfFault (expects_value names) (chars (drop token.start text)) wrong
  pub hints : IsHintFor unclosed language token.bare names more asked

-- these details are of the token that is the refused one
abbrev pub AreDetails : (Token → Type 0) → Language → Limits → List ℕ → ReadFrom → Option Pos → List ℕ → Option (List ℕ) → Type 0
AreDetails is_refused language limits text from unclosed details asked = (token : Token) → is_refused token → TellsToken language limits text from unclosed token details asked

-- what may nest, and how deep it may
abbrev pub IsLimitNamed : Limits → List ℕ → ℕ → Type 0
IsLimitNamed limits what most = ((what ≡ codes "lists and objects") × (most ≡ limits.values)) ⊎ ((what ≡ codes "list types") × (most ≡ limits.types)) ⊎ ((what ≡ codes "selection sets") × (most ≡ limits.selections))

abbrev pub limit_words : List ℕ → ℕ → List ℕ
limit_words what most = codes ": " ++ (what ++ (codes " may nest " ++ (decimal most ++ codes " deep")))

-- what is said of a limit: which one it is, and that a block string isn't closed, if that is known
abbrev pub IsLimitRemark : Limits → Option Pos → List ℕ → Type 0
IsLimitRemark limits unclosed told = (what : List ℕ) × (most : ℕ) × IsLimitNamed limits what most × (told ≡ limit_words what most ++ unclosed_part unclosed)

-- a limit is told at a place in the text, that of the token that is the refused one
abbrev pub IsLimitAt : (Token → Type 0) → List ℕ → Pos → Type 0
IsLimitAt is_refused text place = IsPlaceIn text place × ((token : Token) → is_refused token → place ≡ token.pos)

-- ---- findings

abbrev pub first_of : List Pos → Option Pos
first_of [] = None
first_of (place ∷ more) = Some place

-- A finding stands where the report of its error does: at the first place that it tells.
abbrev pub StandsAt : (Token → Type 0) → List ℕ → Error → Option Pos → Type 0
StandsAt is_refused text (Syntax message start stop) stands = (place : Pos) × (stands ≡ Some place) × IsToldAt is_refused text start place
StandsAt is_refused text RecursionLimitExceeded stands = (place : Pos) × (stands ≡ Some place) × IsLimitAt is_refused text place
StandsAt is_refused text error stands = stands ≡ first_of (error_places error)

-- where a token of the text ends, if it has characters
abbrev pub IsEndOf : List ℕ → Token → Option Pos → Type 0
IsEndOf text token end = MatchOption end (token.bare.spelling ≡ []) (λ place_there. place_there ≡ place text (token.start + length token.bare.spelling))

-- the message says what the report says after the place; a word was meant if that is what the hint in it asks for, and else none
abbrev pub IsMessage : (Token → Type 0) → Language → Limits → List ℕ → ReadFrom → Option Pos → Error → List ℕ → Option (List ℕ) → Type 0
IsMessage is_refused language limits text from unclosed (Syntax message start stop) told meant = (details : List ℕ) × (told ≡ codes "syntax error: " ++ details) × AreDetails is_refused language limits text from unclosed details meant
IsMessage is_refused language limits text from unclosed RecursionLimitExceeded told meant = (meant ≡ None) × ((more : List ℕ) × ((token : Token) → is_refused token → IsLimitRemark limits unclosed more) × (told ≡ codes "recursion limit exceeded" ++ more))
IsMessage is_refused language limits text from unclosed error told meant = (meant ≡ None) × (told ≡ error_text error ++ first_remark error)

-- A finding ends where the refused token does, after its characters; and nowhere if that has none, or of another error.
abbrev pub EndsAt : (Token → Type 0) → List ℕ → Error → Option Pos → Type 0
EndsAt is_refused text (Syntax message start stop) end = (token : Token) → is_refused token → IsEndOf text token end
EndsAt is_refused text RecursionLimitExceeded end = (token : Token) → is_refused token → IsEndOf text token end
EndsAt is_refused text error end = end ≡ None

-- the name of the error's status
abbrev pub status_of : Error → List ℕ
status_of (Syntax message start stop) = codes "SYNTAX"
status_of RecursionLimitExceeded = codes "RECURSION_LIMIT_EXCEEDED"
status_of (MultipleOperations anonymous operation) = codes "MULTIPLE_OPERATIONS"
status_of (OperationDuplicated operation first second) = codes "OPERATION_DUPLICATED"
status_of (FragmentDuplicated fragment first second) = codes "FRAGMENT_DUPLICATED"
status_of MissingOperation = codes "MISSING_OPERATION"
status_of (MultipleRoots root schema pos) = codes "MULTIPLE_ROOTS"
status_of (MissingQueryRoot pos) = codes "MISSING_QUERY_ROOT"
status_of OutOfMemory = codes "OUT_OF_MEMORY"

-- The finding of an error of a text that was read from there on, in which a block string that isn't closed is known to begin at a
-- place, or none is.
pub record IsFinding (is_refused : Token → Type 0) (language : Language) (limits : Limits) (text : List ℕ) (from : ReadFrom) (unclosed : Option Pos) (error : Error) (finding : Finding) : Type 0 where
  pub stands : StandsAt is_refused text error finding.place
  pub ends : EndsAt is_refused text error finding.end
  pub status : finding.status.now ≡ status_of error
  pub message : IsMessage is_refused language limits text from unclosed error (string_bytes finding.message) (word_of finding.meant)
