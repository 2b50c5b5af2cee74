-- What is known of a language and its reader, is known of checks of it; and a check answers as a parse does.
use Rattle.std.proofs.Common.{ℕ, Result, List}
use Rattle.graphql_tokens.specs.tokens.Token.{Token}
use Rattle.graphql_grammar.specs.answers.Answers.{Answers}
use Rattle.graphql_grammar.specs.answers.Language.{Language}
use Rattle.graphql_grammar.specs.answers.Reads.{ReadsText}
use Rattle.graphql_grammar.specs.declared.error.Error.{Error}
use Rattle.graphql_grammar.proofs.Alike.{JudgesAlike}
use Rattle.graphql_grammar.proofs.Languages.{IsRead}
use Rattle.graphql_grammar.proofs.OneAnswer.{same-answer}
use Rattle.graphql_reading.specs.grammar.Limits.{Limits}
use Rattle.graphql_reading.specs.reading.Outcome.{Reader}
use Rattle.graphql_parser.specs.Checking.{checked, IsAsParsed, IsAsParsedText}

judges-checked : {D Document : Type 0} (language : Language D Document) → JudgesAlike language → JudgesAlike (checked language)
judges-checked language judges = record { one = judges.one; each = judges.each; breach = judges.breach; lack = judges.lack }

pub checks-read : {D Document : Type 0} (language : Language D Document) (reader : Limits → Reader (List D)) → IsRead language reader → IsRead (checked language) reader
checks-read language reader read = record { has_phrase = read.has_phrase; ignores_places = read.ignores_places; reads_exactly = read.reads_exactly; includes = read.includes; judges = judges-checked language read.judges }

pub as-parsed : {D Document : Type 0} (language : Language D Document) (limits : Limits) (tokens : List Token) (result : Result (Unit {0}) Error) → Answers (checked language) limits tokens result → IsAsParsed language limits tokens result
as-parsed language limits tokens result checks parsed parses known also = same-answer language (λ ds document. Unit {0}) limits tokens parsed result parses checks known also

pub text-as-parsed : {D Document : Type 0} (language : Language D Document) (limits : Limits) (text : List ℕ) (result : Result (Unit {0}) Error) → ReadsText (checked language) limits text result → IsAsParsedText language limits text result
text-as-parsed language limits text result reads tokens cut = as-parsed language limits tokens result (reads.answer tokens cut)
