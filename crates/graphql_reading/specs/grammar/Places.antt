-- Where the parts of a document stand.
-- Source: this project's choice, as the Rust crate's: a node stands where its first token does, unless its production
-- says otherwise.
use Rattle.std.specs.Prelude.{ℕ, List}
use Rattle.graphql_tokens.specs.declared.pos.Pos.{Pos}
use Rattle.graphql_tokens.specs.declared.pos.Positioned.{Positioned}
use Rattle.graphql_tokens.specs.tokens.Token.{Token}

-- what this token starts stands at its place
abbrev pub at : {A : Type 0} → Token → A → Positioned A
at t node = record { pos = t.pos; node = node }

abbrev pub name_of : Token → Positioned (List ℕ)
name_of t = at t t.bare.spelling

-- where what doesn't stand in the text has its place
abbrev pub nowhere : Pos
nowhere = record { line = 0; column = 0 }
