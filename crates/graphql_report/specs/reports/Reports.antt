-- What the report of an error shows: its finding, and the second place if it names one.
-- Source: this project's choice.
use Rattle.std.specs.Prelude.{◌≡◌, ◌≢◌, ℕ, List, [], ◌∷◌, ◌++◌, Option, Some, None, codes, string_bytes}
use Rattle.std.specs.Fmt.{decimal}
use Rattle.graphql_tokens.specs.declared.pos.Pos.{Pos}
use Rattle.graphql_tokens.specs.tokens.Token.{Token}
use Rattle.graphql_reading.specs.grammar.Limits.{Limits}
use Rattle.graphql_grammar.specs.declared.error.Error.{Error}
use Rattle.graphql_report.specs.declared.findings.Finding.{Finding}
use Rattle.graphql_report.specs.declared.fronts.Language.{Language}
use Rattle.graphql_report.specs.declared.rests.ReadFrom.{ReadFrom}
use Rattle.graphql_report.specs.declared.style.Style.{Style}
use Rattle.graphql_report.specs.declared.style.Style.TheVariants.{Plain, Coloured}
use Rattle.graphql_report.specs.declared.style.Part.{Part}
use Rattle.graphql_report.specs.declared.style.Part.TheVariants.{Place, Error as Word, Caret}
use Rattle.graphql_report.specs.reports.Findings.{IsFinding}
use Rattle.graphql_report.specs.reports.Offsets.{definition_places, second_remark}

-- ---- how a part stands out

-- the code after which a terminal shows a part as it is to be shown: a place in bold, the word in bold red, a caret in red
abbrev pub code_of : Part → List ℕ
code_of Place = 27 ∷ codes "[1m"
code_of Word = 27 ∷ codes "[1;31m"
code_of Caret = 27 ∷ codes "[31m"

-- a part in colours stands between its code and the one after which a terminal shows all as usual
abbrev pub styled : Style → Part → List ℕ → List ℕ
styled Plain part text = text
styled Coloured part text = code_of part ++ text ++ (27 ∷ codes "[0m")

-- ---- what is told

-- the name of a file and a mark after it; nothing where the file has no name
abbrev pub named : List ℕ → List ℕ → List ℕ
named [] mark = []
named (letter ∷ letters) mark = letter ∷ letters ++ mark

-- a place in a file, `FILE:LINE:COL:`, or `LINE:COL:` where the file has no name
abbrev pub place_text : List ℕ → Pos → List ℕ
place_text file place = named file (codes ":") ++ decimal place.line ++ codes ":" ++ decimal place.column ++ codes ":"

-- the report begins with the place, a blank and the message
abbrev pub Tells : Style → List ℕ → Pos → List ℕ → List ℕ → Type 0
Tells style file place message report = (rest : List ℕ) × (report ≡ styled style Place (place_text file place) ++ codes " " ++ message ++ rest)

-- a message as it is shown: the word `error` of a syntax error stands out
pub data IsShown (style : Style) (message shown : List ℕ) : Type 0 where
  syntax : (details : List ℕ) → message ≡ codes "syntax error" ++ details → shown ≡ codes "syntax " ++ styled style Word (codes "error") ++ details → IsShown style message shown
  other : ((details : List ℕ) → message ≢ codes "syntax error" ++ details) → shown ≡ message → IsShown style message shown

-- it begins with the place and the message, with which a line ends
abbrev pub TellsLine : Style → List ℕ → Pos → List ℕ → List ℕ → Type 0
TellsLine style file place message part = (shown : List ℕ) × IsShown style message shown × Tells style file place (shown ++ 10 ∷ []) part

-- ---- reports

-- the second of the places is told, with the remark; nothing where there is none
abbrev pub TellsSecond : Style → List ℕ → List ℕ → List Pos → List ℕ → Type 0
TellsSecond style file remark (first ∷ second ∷ more) part = TellsLine style file second remark part
TellsSecond style file remark places part = part ≡ []

-- A report begins with the place and the message of a finding, and tells the second place of an error about definitions further on,
-- with the remark; where there is no place, it is one line of the file, if that has a name, and the message.
abbrev pub Shows : Style → List ℕ → Error → Option Pos → List ℕ → List ℕ → Type 0
Shows style file error None message report = report ≡ named file (codes ": ") ++ message ++ 10 ∷ []
Shows style file error (Some place) message report =
    (first other : List ℕ) × TellsLine style file place message first × TellsSecond style file (second_remark error) (definition_places error) other × (report ≡ first ++ other)

-- The report of an error of a text that was read from there on, in which a block string that isn't closed is known to begin at a
-- place, or none is: it shows the finding of that error.
pub record IsReportWith (style : Style) (file : List ℕ) (is_refused : Token → Type 0) (language : Language) (limits : Limits) (text : List ℕ) (from : ReadFrom) (unclosed : Option Pos) (error : Error) (report : List ℕ) : Type 0 where
  pub finding : Finding
  pub is : IsFinding is_refused language limits text from unclosed error finding
  pub shows : Shows style file error finding.place (string_bytes finding.message) report

-- the same where no such string is known
abbrev pub IsReport : Style → List ℕ → (Token → Type 0) → Language → Limits → List ℕ → ReadFrom → Error → List ℕ → Type 0
IsReport style file is_refused language limits text from error report = IsReportWith style file is_refused language limits text from None error report
