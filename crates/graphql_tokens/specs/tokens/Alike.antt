-- Bare tokens that mean the same: equal ones, and block strings that are written differently and have one value.
-- Source: GraphQL October 2021, section 2.9.4 (String Value): a block string stands for its `BlockStringValue`.
use Rattle.std.specs.Prelude.{◌≡◌, ℕ, ◌⊎◌, ◌-◌, List, [], ◌∷◌, length, take, drop}
use Rattle.std.specs.Str.{chars}
use Rattle.graphql_tokens.specs.declared.lexer.TokenKind.TheVariants.{Block}
use Rattle.graphql_tokens.specs.tokens.BlockText.{block_value}
use Rattle.graphql_tokens.specs.tokens.Token.{Bare}

-- what is left without so many bytes at each end
abbrev pub inside : ℕ → List ℕ → List ℕ
inside quotes spelling = drop quotes (take (length spelling - quotes) spelling)

-- the characters of the value that a block string with this spelling has
abbrev pub value_of_block : List ℕ → List ℕ
value_of_block spelling = block_value (chars (inside 3 spelling))

-- both are block strings, of one value
pub record AreOneBlock (a b : Bare) : Type 0 where
  pub block : a.kind ≡ Block
  pub other_block : b.kind ≡ Block
  pub value : value_of_block a.spelling ≡ value_of_block b.spelling

abbrev pub IsAlike : Bare → Bare → Type 0
IsAlike a b = (a ≡ b) ⊎ AreOneBlock a b

-- as many tokens in both lists, each like the other at its position
abbrev pub AreAlike : List Bare → List Bare → Type 0
AreAlike [] [] = Unit {0}
AreAlike [] (b ∷ bs) = ⊥
AreAlike (a ∷ more) [] = ⊥
AreAlike (a ∷ more) (b ∷ bs) = IsAlike a b × AreAlike more bs
