-- Texts that are laid out anew: they have the same comments and tokens, but for the blanks at the ends of comments and for how block
-- strings are written.
-- Source: GraphQL October 2021, section 2.1.4 (Comments), section 2.1.7 (Ignored Tokens) and section 2.9.4 (String Value). What is
-- left out of comments is this project's choice.
use Rattle.std.specs.Prelude.{◌≡◌, ℕ, if◌then◌else◌, List, [], ◌∷◌}
use Rattle.std.specs.Str.{chars}
use Rattle.graphql_tokens.specs.tokens.Alike.{IsAlike}
use Rattle.graphql_tokens.specs.tokens.BlockText.{is_blank}
use Rattle.graphql_layout.specs.texts.Items.{Item, comment, word, IsItems}
use Rattle.graphql_layout.specs.texts.SameTokens.{HaveAlikeTokens}
use Rattle.graphql_layout.specs.texts.Specified.{IsAlikeAsSpecified, AreAlikeAsSpecified}

-- the characters without the tabs and spaces at their end
abbrev pub trimmed : List ℕ → List ℕ
trimmed [] = []
trimmed (c ∷ cs) = if is_blank (c ∷ cs) then [] else c ∷ trimmed cs

-- the other is the comment trimmed, or a token that means what the token does
abbrev pub IsLaid : Item → Item → Type 0
IsLaid (comment c) (comment d) = d ≡ trimmed c
IsLaid (comment c) (word b) = ⊥
IsLaid (word a) (comment d) = ⊥
IsLaid (word a) (word b) = IsAlike a b × IsAlikeAsSpecified a b

-- as many comments and tokens in both lists, each laid out as the other at its position
abbrev pub AreLaid : List Item → List Item → Type 0
AreLaid [] [] = Unit {0}
AreLaid [] (other ∷ others) = ⊥
AreLaid (item ∷ items) [] = ⊥
AreLaid (item ∷ items) (other ∷ others) = IsLaid item other × AreLaid items others

-- The other text has the tokens of the text, one for one in kind and spelling, or as block strings of one value, by the
-- specification too; and its comments, each between the same two tokens, less the tabs and spaces at its end. Neither text has
-- other tokens or comments.
pub record IsLaidOut (text other : List ℕ) : Type 0 where
  pub tokens : HaveAlikeTokens text other
  pub as_specified : AreAlikeAsSpecified tokens.tokens tokens.others
  pub items : List Item
  pub others : List Item
  pub of_text : IsItems (chars text) items
  pub of_other : IsItems (chars other) others
  pub alike : AreLaid items others
