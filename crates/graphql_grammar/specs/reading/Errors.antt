-- The error that a refusal becomes.
use Rattle.std.specs.Prelude.{◌≡◌, ◌≢◌, None, string_bytes}
use Rattle.graphql_tokens.specs.declared.pos.Pos.{Pos}
use Rattle.graphql_grammar.specs.declared.error.Error.{Error}
use Rattle.graphql_grammar.specs.declared.error.Error.TheVariants.{Syntax, RecursionLimitExceeded, OutOfMemory}
use Rattle.graphql_reading.specs.declared.parser.Refusal.{Refusal}
use Rattle.graphql_reading.specs.declared.parser.Refusal.TheVariants as refusals
use Rattle.graphql_grammar.specs.errors.Errors.{syntax_message}

-- The error of a refusal at this place. Memory may run out where it ran out before, and where a message has to
-- be written; a limit takes none.
abbrev pub IsErrorOf : Refusal → Pos → Error → Type 0
IsErrorOf refusal place (Syntax message start end) = (refusal ≡ refusals.Syntax) × (start ≡ place) × (end ≡ None) × (string_bytes message ≡ syntax_message start)
IsErrorOf refusal place RecursionLimitExceeded = refusal ≡ refusals.Limit
IsErrorOf refusal place OutOfMemory = refusal ≢ refusals.Limit
IsErrorOf refusal place other = ⊥
