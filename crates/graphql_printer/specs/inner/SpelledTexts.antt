-- Bare tokens with spellings, and the texts that have them.
use Rattle.std.specs.Prelude.{◌≡◌, ℕ, List}
use Rattle.std.specs.List.{AllByRecursion}
use Rattle.graphql_tokens.specs.tokens.Alike.{AreAlike}
use Rattle.graphql_tokens.specs.tokens.Proper.{Spells}
use Rattle.graphql_tokens.specs.tokens.Token.{Bare}
use Rattle.graphql_layout.specs.texts.SameTokens.{HasTokens}
use Rattle.graphql_printer.specs.inner.Shown.{by_values}

-- each is spelled as its kind is
abbrev pub AreSpellings : List Bare → Type 0
AreSpellings bs = AllByRecursion (λ b. Spells b.kind b.spelling) bs

-- where the written ones are such tokens, the text has these tokens, but that block strings may be written otherwise
abbrev pub KeepsTokens : List Bare → List ℕ → Type 0
KeepsTokens written text = (bs : List Bare) → AreSpellings bs → written ≡ by_values bs → (others : List Bare) × HasTokens text others × AreAlike bs others
