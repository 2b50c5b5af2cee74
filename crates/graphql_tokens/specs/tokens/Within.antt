-- Where a text stands in another. The words are this project's own.
use Rattle.std.specs.Prelude.{◌≡◌, ◌≤◌, ℕ, List, length, take, drop}
use Rattle.graphql_tokens.specs.tokens.Token.{Token}

-- the part stands in the whole, from this byte offset on
abbrev pub StandsAt : List ℕ → List ℕ → ℕ → Type 0
StandsAt part whole start = (start ≤ length whole) × (take (length part) (drop start whole) ≡ part)

-- the token's spelling stands in this text, at its offset
abbrev pub StandsIn : List ℕ → Token → Type 0
StandsIn text t = StandsAt t.bare.spelling text t.start
