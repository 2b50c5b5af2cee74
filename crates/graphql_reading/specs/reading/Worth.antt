-- What tokens pay for.
use Rattle.std.specs.Prelude.{ℕ, ◌+◌, List, [], ◌∷◌, length}
use Rattle.graphql_tokens.specs.tokens.Token.{Token}

-- the bytes that a token pays for, beside those that it spells
abbrev pub per_token : ℕ
per_token = 1104

-- what these tokens pay for
unfoldable pub worth : List Token → ℕ
worth [] = 0
worth (t ∷ ts) = per_token + length t.bare.spelling + worth ts
