-- Errors of which a clone takes no memory.
-- Source: this project's choice.
use Rattle.std.specs.Prelude.{◌≤◌, ⊤, length}
use Rattle.graphql_grammar.specs.declared.error.Error.{Error}
use Rattle.graphql_grammar.specs.declared.error.Error.TheVariants.{Syntax, OperationDuplicated, FragmentDuplicated}

-- the error has no message, and its name, if it has one, is at most 22 bytes long
abbrev pub IsSmallError : Error → Type 0
IsSmallError (Syntax message start end) = ⊥
IsSmallError (OperationDuplicated operation first second) = length operation ≤ 22
IsSmallError (FragmentDuplicated fragment first second) = length fragment ≤ 22
IsSmallError error = ⊤
