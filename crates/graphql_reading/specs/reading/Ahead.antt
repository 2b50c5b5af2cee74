-- What a parser shows.
use Rattle.std.specs.Prelude.{◌≡◌, ℕ, List, ◌∷◌}
use Rattle.graphql_memory.specs.declared.Memory.{Memory}
use Rattle.graphql_tokens.specs.tokens.Token.{Token}
use Rattle.graphql_reading.specs.reading.Worth.{worth}

-- a text, and its tokens
pub record Source : Type 0 where
  pub text : List ℕ
  pub whole : List Token

-- what is read, the token in hand, those after it, how many were taken from the lexer, and who takes memory
pub record Ahead : Type 0 where
  pub source : Source
  pub hand : Token
  pub after : List Token
  pub taken : ℕ
  pub memory : Memory

-- the tokens ahead, the one in hand first
abbrev pub tokens : Ahead → List Token
tokens a = a.hand ∷ a.after

-- only memory may have been asked for
abbrev pub Stays : Ahead → Ahead → Type 0
Stays old new = (new.hand ≡ old.hand) × (new.after ≡ old.after) × (new.source ≡ old.source) × (new.taken ≡ old.taken) × (worth (tokens new) ≡ worth (tokens old))
