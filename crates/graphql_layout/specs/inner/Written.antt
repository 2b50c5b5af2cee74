-- Characters that are cut into the same bare tokens wherever they stand, and what may come before them.
-- Source: this project's choice.
use Rattle.std.specs.Prelude.{◌≡◌, ℕ, false, List, [], ◌∷◌}
use Rattle.graphql_tokens.specs.tokens.Cuts.{Cuts}
use Rattle.graphql_tokens.specs.tokens.Edition.{Current}
use Rattle.graphql_tokens.specs.tokens.Token.{Bare, Token}
use Rattle.graphql_layout.specs.declared.ending.Ending.{Ending}
use Rattle.graphql_layout.specs.inner.Endings.{stops}
use Rattle.graphql_layout.specs.texts.SameTokens.{bares}

-- after any front, the text is cut into these bare tokens
abbrev pub IsWritten : List ℕ → List Bare → Type 0
IsWritten text bs = (front : List ℕ) → (ts : List Token) × Cuts Current front text ts × (bares ts ≡ bs)

-- the text may follow what ends so
abbrev pub Allows : Ending → List ℕ → Type 0
Allows ending [] = Unit {0}
Allows ending (c ∷ cs) = stops ending c ≡ false
