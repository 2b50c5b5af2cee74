-- What a call in C hands over of a text that is written anew: without what isn't needed, or laid out anew.
-- Source: this project's choice.
use Rattle.std.specs.Prelude.{◌≡◌, ℕ, List, Some, Result, Ok, Err}
use Rattle.graphql_grammar.specs.declared.error.Error.{Error}
use Rattle.graphql_layout.specs.texts.LaidOut.{IsLaidOut}
use Rattle.graphql_layout.specs.texts.Minified.{IsMinified}
use Rattle.graphql_parser.specs.answers.Language.{Language}
use Rattle.graphql_parser.specs.Checking.{checked}
use Rattle.graphql_parser.specs.notation.Limits.{Limits}
use Rattle.graphql_parser_c.specs.Handing.{IsNothing, HandsOver}
use Rattle.graphql_parser_c.specs.declared.block.Block.{Block}
use Rattle.graphql_printer.specs.Rewritten.{MeanTheSame}

-- the other text is this one minified, and means the same
abbrev pub Minifies : {D Document : Type 0} → Language D Document → Limits → List ℕ → List ℕ → Type 0
Minifies language limits text other = IsMinified text other × MeanTheSame language limits text other

-- the other text is this one laid out anew, and means the same
abbrev pub LaysOut : {D Document : Type 0} → Language D Document → Limits → List ℕ → List ℕ → Type 0
LaysOut language limits text other = IsLaidOut text other × MeanTheSame language limits text other

-- of an accepted text such a text is handed over, and of an error nothing is
abbrev pub Rewrites : {Document : Type 0} → (List ℕ → Type 0) → Result Document Error → Block → Type 0
Rewrites Is (Ok document) handed = (other : List ℕ) × (handed.text ≡ Some other) × Is other
Rewrites Is (Err error) handed = IsNothing handed

-- a text that is accepted is handed over so
abbrev pub IsRewritten : {D Document : Type 0} → (Language D Document → Limits → List ℕ → List ℕ → Type 0) → Language D Document → Limits → List ℕ → ℕ → Block → Type 0
IsRewritten As language limits text = HandsOver (checked language) (Rewrites (As language limits text)) limits text
