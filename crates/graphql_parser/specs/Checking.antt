-- What a check of a text is the check of.
-- Source: this project's choice.
use Rattle.std.specs.Prelude.{◌≢◌, ℕ, Result, Err, List}
use Rattle.graphql_tokens.specs.tokens.Cuts.{IsCutInto}
use Rattle.graphql_tokens.specs.tokens.Token.{Token}
use Rattle.graphql_grammar.specs.answers.Answers.{Answers, SayTheSame}
use Rattle.graphql_grammar.specs.answers.Language.{Language}
use Rattle.graphql_grammar.specs.declared.error.Error.{Error}
use Rattle.graphql_grammar.specs.declared.error.Error.TheVariants.{OutOfMemory}
use Rattle.graphql_reading.specs.grammar.Limits.{Limits}

-- A check answers as the parser of the language does, and makes nothing of a document.
abbrev pub checked : {D Document : Type 0} → Language D Document → Language D (Unit {0})
checked language = record {
  definitions = language.definitions;
  placeless = language.placeless;
  breach = language.breach;
  lack = language.lack;
  makes = λ ds document. Unit {0};
}

-- The result of a check of these tokens says what a parse of them says: whatever the parse may answer, both accept the
-- same definitions, or both refuse with equal errors, unless memory ran out for one of the two.
abbrev pub IsAsParsed : {D Document : Type 0} → Language D Document → Limits → List Token → Result (Unit {0}) Error → Type 0
IsAsParsed {D} {Document} language limits tokens result =
    (parsed : Result Document Error) → Answers language limits tokens parsed → parsed ≢ Err OutOfMemory → result ≢ Err OutOfMemory → SayTheSame language (checked language) parsed result

-- that of a check of a text, in UTF-8
abbrev pub IsAsParsedText : {D Document : Type 0} → Language D Document → Limits → List ℕ → Result (Unit {0}) Error → Type 0
IsAsParsedText language limits text result = (tokens : List Token) → IsCutInto text tokens → IsAsParsed language limits tokens result
