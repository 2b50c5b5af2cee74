-- The tokens of a text, and texts with tokens that mean the same, wherever these are in the two.
-- Source: this project's choice.
use Rattle.std.specs.Prelude.{◌≡◌, ℕ, List, [], ◌∷◌, ◌++◌, map}
use Rattle.graphql_tokens.specs.tokens.Alike.{AreAlike}
use Rattle.graphql_tokens.specs.tokens.Cuts.{IsCutInto, HasNoFault}
use Rattle.graphql_tokens.specs.tokens.Token.{Bare, Token}
use Rattle.graphql_tokens.specs.declared.lexer.TokenKind.TheVariants.{End}

abbrev pub bares : List Token → List Bare
bares tokens = map (λ t. t.bare) tokens

abbrev pub bare_end : Bare
bare_end = record { kind = End; spelling = [] }

-- the text, in UTF-8, is cut into these bare tokens and an end
abbrev pub HasTokens : List ℕ → List Bare → Type 0
HasTokens text bs = (tokens : List Token) × IsCutInto text tokens × (bares tokens ≡ bs ++ bare_end ∷ [])

-- a fault is among the tokens of the text
abbrev pub HasFault : List ℕ → Type 0
HasFault text = (tokens : List Token) × IsCutInto text tokens × (¬ (HasNoFault tokens))

-- Both texts have as many tokens, and each means what the other at its position does.
pub record HaveAlikeTokens (text other : List ℕ) : Type 0 where
  pub tokens : List Bare
  pub others : List Bare
  pub of_text : HasTokens text tokens
  pub of_other : HasTokens other others
  pub alike : AreAlike tokens others
