-- What a call in C hands over to people: a report of the error in a text.
-- Source: this project's choice.
use Rattle.std.specs.Prelude.{◌≡◌, ℕ, List, [], Some, Result, Ok, Err}
use Rattle.graphql_grammar.specs.declared.error.Error.{Error}
use Rattle.graphql_parser.specs.answers.Language.{Language}
use Rattle.graphql_parser.specs.notation.Limits.{Limits}
use Rattle.graphql_parser_c.specs.Handing.{IsNothing, HandsOver}
use Rattle.graphql_parser_c.specs.declared.block.Block.{Block}
use Rattle.graphql_report.specs.declared.style.Style.TheVariants.{Plain}
use Rattle.graphql_report.specs.declared.fronts.Language.{Language as ReadAs}
use Rattle.graphql_report.specs.reports.Refused.{IsRefusedFrom}
use Rattle.graphql_report.specs.reports.Reports.{IsReport}
use Rattle.graphql_report.specs.reports.Rests.{top}

-- of an error a report is handed over, of a text in a file without a name; of an accepted text nothing is
abbrev pub Explains : {Document : Type 0} → ReadAs → Limits → List ℕ → Result Document Error → Block → Type 0
Explains read_as limits text (Ok document) handed = IsNothing handed
Explains read_as limits text (Err error) handed =
    (report : List ℕ) × (handed.text ≡ Some report) × IsReport Plain [] (IsRefusedFrom read_as limits text top) read_as limits text top error report

-- what explains the answer is handed over
abbrev pub IsExplained : {D Document : Type 0} → ReadAs → Language D Document → Limits → List ℕ → ℕ → Block → Type 0
IsExplained read_as language limits text = HandsOver language (Explains read_as limits text) limits text
