-- What the rules make of the definitions of a language.
use Rattle.std.specs.Prelude.{◌≡◌, ◌⊎◌, Option, Some, None, Result, Ok, Err, List}
use Rattle.graphql_grammar.specs.answers.Answers.{FirstBreach, Lacks, IsDocument}
use Rattle.graphql_grammar.specs.answers.Language.{Language}
use Rattle.graphql_grammar.specs.declared.error.Error.{Error}
use Rattle.graphql_grammar.specs.declared.error.Error.TheVariants.{Syntax, RecursionLimitExceeded, OutOfMemory}

-- what a list of definitions breaks or lacks, or that memory ran out
abbrev pub TellsBreach : {D Document : Type 0} → Language D Document → List D → Error → Type 0
TellsBreach language ds (Syntax message start end) = ⊥
TellsBreach language ds RecursionLimitExceeded = ⊥
TellsBreach language ds OutOfMemory = Unit {0}
TellsBreach language ds error = FirstBreach language ds error ⊎ Lacks language ds error

abbrev pub IsDocumentOf : {D Document : Type 0} → Language D Document → List D → Result Document Error → Type 0
IsDocumentOf language ds (Ok document) = IsDocument language ds document
IsDocumentOf language ds (Err error) = TellsBreach language ds error

-- The error that one definition is after others. Memory may run out only where it breaks no rule: an error of a
-- rule takes none.
abbrev pub TellsOf : Option Error → Error → Type 0
TellsOf breach (Syntax message start end) = ⊥
TellsOf breach RecursionLimitExceeded = ⊥
TellsOf breach OutOfMemory = breach ≡ None
TellsOf breach error = breach ≡ Some error
