-- What the check of a text tells: whether the text's tokens are a viable front, and whether they have a tree.
use Rattle.std.proofs.Common.{◌≡◌, ℕ, Bool, true, Result, Ok, Err, List}
use Rattle.std.specs.Prelude.{IfOk}
use Rattle.std.specs.Str.{chars, IsUtf8}
use Rattle.std.specs.declared.alloc.AllocError.{AllocError}
use Rattle.graphql_tokens.specs.tokens.Place.{place_after}
use Rattle.graphql_tokens.specs.declared.pos.Pos.{Pos}
use Rattle.graphql_reading.specs.grammar.Limits.{Limits}
use Rattle.graphql_grammar.specs.declared.error.Error.{Error}
use Rattle.graphql_requests.specs.grammar.Requests.{requests}
use Rattle.graphql_requests.specs.reading.Request as request
use Rattle.graphql_requests.proofs.RequestProductions.{requests-are-read}
use Rattle.graphql_schemas.specs.grammar.Schemas.{schemas}
use Rattle.graphql_schemas.specs.reading.SchemaFile as schema
use Rattle.graphql_schemas.proofs.SchemaFileProductions.{schemas-are-read}
use Rattle.graphql_parser.specs.Checking.{checked}
use Rattle.graphql_parser.proofs.Checking.{checks-read}
use Rattle.graphql_report.specs.declared.fronts.Language.{Language}
use Rattle.graphql_report.specs.declared.fronts.Language.TheVariants.{Requests, Schemas}
use Rattle.graphql_report.specs.fronts.Front.{LastIsLineFeed}
use Rattle.graphql_report.specs.reports.Expected.{TellsFrontOf, TellsTreeOf}
use Rattle.graphql_report.specs.inner.Told.{ReadsAs, TellsFront, TellsTree}
use Rattle.graphql_report.proofs.ToldFronts.{refused-right, accepted-right, right-of-checked, told-by-check}
use Rattle.graphql_report.proofs.Trees as trees

-- ---- fronts

pub front-of-accepted : (language : Language) (limits : Limits) (text : List ℕ) → IsUtf8 text → (u : Unit {0}) → ReadsAs language limits text (Ok u) → TellsFrontOf language limits text true
front-of-accepted Requests limits text utf8 u reads = right-of-checked requests limits text true (accepted-right (checked requests) limits text utf8 u reads.answer)
front-of-accepted Schemas limits text utf8 u reads = right-of-checked schemas limits text true (accepted-right (checked schemas) limits text utf8 u reads.answer)

pub front-of-refused : (language : Language) (limits : Limits) (text : List ℕ) (end : Pos) → IsUtf8 text → LastIsLineFeed (chars text) → end ≡ place_after (chars text) → (error : Error) → ReadsAs language limits text (Err error) → (result : Result Bool AllocError) → TellsFront error end result → IfOk result (TellsFrontOf language limits text)
front-of-refused Requests limits text end utf8 lined place error reads result tells = told-by-check requests limits text result (refused-right (checked requests) request.definitions_at (checks-read requests request.definitions_at requests-are-read) limits text end utf8 lined place error reads.answer result tells)
front-of-refused Schemas limits text end utf8 lined place error reads result tells = told-by-check schemas limits text result (refused-right (checked schemas) schema.definitions_at (checks-read schemas schema.definitions_at schemas-are-read) limits text end utf8 lined place error reads.answer result tells)

-- ---- trees

pub tree-of-accepted : (language : Language) (limits : Limits) (text : List ℕ) (u : Unit {0}) → ReadsAs language limits text (Ok u) → TellsTreeOf language limits text true
tree-of-accepted Requests limits text u reads = trees.accepted-right (checked requests) limits text u reads.answer
tree-of-accepted Schemas limits text u reads = trees.accepted-right (checked schemas) limits text u reads.answer

pub tree-of-refused : (language : Language) (limits : Limits) (text : List ℕ) (error : Error) → ReadsAs language limits text (Err error) → (result : Result Bool AllocError) → TellsTree error result → IfOk result (TellsTreeOf language limits text)
tree-of-refused Requests limits text error reads result tells = trees.refused-right (checked requests) limits text error reads.answer result tells
tree-of-refused Schemas limits text error reads result tells = trees.refused-right (checked schemas) limits text error reads.answer result tells
