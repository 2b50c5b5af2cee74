-- What follows a number token at the front of a text, as a function.
use Rattle.std.specs.Prelude.{ℕ, if◌then◌else◌, List, [], ◌∷◌, Option, Some, None}
use Rattle.graphql_tokens.specs.tokens.Numbers.{forbids_number}
use Rattle.graphql_tokens.specs.inner.Numerals.{then_past, past_numeral}

abbrev pub unless_forbidden : List ℕ → Option (List ℕ)
unless_forbidden [] = Some []
unless_forbidden (c ∷ cs) = if forbids_number c then None else Some (c ∷ cs)

unfoldable pub past_number : List ℕ → Option (List ℕ)
past_number text = then_past (past_numeral text) unless_forbidden
