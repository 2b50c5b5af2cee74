-- Comments that are written without the blanks at their ends, and tokens that are written.
-- Source: this project's choice.
use Rattle.std.specs.Prelude.{◌≡◌, List, [], ◌∷◌, ◌++◌}
use Rattle.graphql_tokens.specs.tokens.Alike.{IsAlike}
use Rattle.graphql_tokens.specs.tokens.Token.{Bare}
use Rattle.graphql_layout.specs.texts.Items.{Item, comment, word}
use Rattle.graphql_layout.specs.texts.LaidOut.{trimmed}
use Rattle.graphql_layout.specs.texts.Specified.{IsAlikeAsSpecified}

-- the same, but each comment is trimmed
abbrev pub tidied : List Item → List Item
tidied [] = []
tidied (comment c ∷ items) = comment (trimmed c) ∷ tidied items
tidied (word b ∷ items) = word b ∷ tidied items

-- a token that means what this one does was written
pub record IsAdded (b : Bare) (old new : List Item) : Type 0 where
  pub other : Bare
  pub alike : IsAlike b other
  pub as_specified : IsAlikeAsSpecified b other
  pub is : new ≡ old ++ word other ∷ []
