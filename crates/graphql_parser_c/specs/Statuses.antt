-- The statuses of the calls in C: the number of each, and which one an answer has.
-- Source: this project's choice. The numbers stand in bindings/graphql_parser.h too, and never change.
use Rattle.std.specs.Prelude.{ℕ, Result, Ok, Err}
use Rattle.graphql_grammar.specs.declared.error.Error.{Error}
use Rattle.graphql_grammar.specs.declared.error.Error.TheVariants.{Syntax, MultipleRoots, MissingQueryRoot, MultipleOperations, OperationDuplicated, FragmentDuplicated, MissingOperation, RecursionLimitExceeded, OutOfMemory}
use Rattle.graphql_parser_c.specs.declared.status.Status.{Status}
use Rattle.graphql_parser_c.specs.declared.status.Status.TheVariants as status

abbrev pub number_of : Status → ℕ
number_of status.Accepted = 0
number_of status.OutOfMemory = 1
number_of status.NotUtf8 = 2
number_of status.LimitTooLarge = 3
number_of status.Syntax = 4
number_of status.RecursionLimitExceeded = 5
number_of status.MultipleOperations = 6
number_of status.OperationDuplicated = 7
number_of status.FragmentDuplicated = 8
number_of status.MissingOperation = 9
number_of status.MultipleRoots = 10
number_of status.MissingQueryRoot = 11

abbrev pub error_status : Error → Status
error_status (Syntax message start end) = status.Syntax
error_status RecursionLimitExceeded = status.RecursionLimitExceeded
error_status (MultipleOperations anonymous operation) = status.MultipleOperations
error_status (OperationDuplicated operation first second) = status.OperationDuplicated
error_status (FragmentDuplicated fragment first second) = status.FragmentDuplicated
error_status MissingOperation = status.MissingOperation
error_status (MultipleRoots root schema pos) = status.MultipleRoots
error_status (MissingQueryRoot pos) = status.MissingQueryRoot
error_status OutOfMemory = status.OutOfMemory

abbrev pub status_of : {Document : Type 0} → Result Document Error → Status
status_of (Ok document) = status.Accepted
status_of (Err error) = error_status error
