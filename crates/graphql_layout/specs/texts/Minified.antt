-- Texts in which nothing stands between tokens, but where it is needed.
-- Source: GraphQL October 2021, section 2.1.7 (Ignored Tokens): what is ignored may stand between any two tokens, and has no
-- significance. That as little of it is left as keeps the tokens, and block strings in few characters, is this project's choice.
use Rattle.std.specs.Prelude.{◌≡◌, ◌≤◌, ℕ, ◌⊎◌, List, [], ◌∷◌, ◌++◌, map, length, codes}
use Rattle.graphql_tokens.specs.tokens.Alike.{AreAlike}
use Rattle.graphql_tokens.specs.tokens.Token.{Bare}
use Rattle.graphql_layout.specs.texts.SameTokens.{HasTokens}
use Rattle.graphql_layout.specs.texts.Shortened.{shortened}
use Rattle.graphql_layout.specs.texts.Specified.{AreAlikeAsSpecified}

-- the text of the one, and right after it that of the other, is read as the two
abbrev pub MayTouch : Bare → Bare → Type 0
MayTouch a b = HasTokens (a.spelling ++ b.spelling) (a ∷ b ∷ [])

-- nothing where the two may touch, and else a blank
abbrev pub IsLeastGap : Bare → Bare → List ℕ → Type 0
IsLeastGap a b gap = (MayTouch a b × (gap ≡ [])) ⊎ ((¬ (MayTouch a b)) × (gap ≡ codes " "))

-- the text is the spellings of these tokens, in their order, with the least gaps between them
abbrev pub IsTight : List Bare → List ℕ → Type 0
IsTight [] text = text ≡ []
IsTight (b ∷ []) text = text ≡ b.spelling
IsTight (a ∷ b ∷ bs) text = (gap : List ℕ) × (rest : List ℕ) × (text ≡ a.spelling ++ (gap ++ rest)) × IsLeastGap a b gap × IsTight (b ∷ bs) rest

-- The other text has the tokens of the text, one for one, its block strings in few characters and with their values, by the
-- specification too; and nothing else but the least gaps between them; and it is no longer.
pub record IsMinified (text other : List ℕ) : Type 0 where
  pub tokens : List Bare
  pub of_text : HasTokens text tokens
  pub of_other : HasTokens other (map shortened tokens)
  pub alike : AreAlike tokens (map shortened tokens)
  pub as_specified : AreAlikeAsSpecified tokens (map shortened tokens)
  pub tight : IsTight (map shortened tokens) other
  pub no_longer : length other ≤ length text
