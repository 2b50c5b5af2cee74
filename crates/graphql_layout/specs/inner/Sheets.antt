-- What a sheet keeps.
-- Source: this project's choice.
use Rattle.std.specs.Prelude.{◌≡◌, ℕ, Bool, true, false, not, List, [], ◌∷◌, ◌++◌}
use Rattle.std.specs.Str.{chars}
use Rattle.graphql_tokens.specs.tokens.Place.{is_line_end}
use Rattle.graphql_layout.specs.declared.sheet.Last.{Last}
use Rattle.graphql_layout.specs.declared.sheet.Last.TheVariants.{Comment, Other}
use Rattle.graphql_layout.specs.inner.Endings.{stops, stops_token}
use Rattle.graphql_layout.specs.inner.ItemsIn.{items_in}
use Rattle.graphql_layout.specs.texts.Items.{Item, IsItems}

-- this character may not follow what was written last
abbrev pub holds_off : Last → ℕ → Bool
holds_off Comment c = not (is_line_end c)
holds_off (Other ending) c = stops ending c

-- a token that is spelled so may not
abbrev pub holds_off_token : Last → List ℕ → Bool
holds_off_token Comment spelling = true
holds_off_token (Other ending) spelling = stops_token ending spelling

abbrev pub MayCome : Last → List ℕ → Type 0
MayCome last [] = Unit {0}
MayCome last (c ∷ cs) = holds_off last c ≡ false

-- The text with any rest that may come has these comments and tokens, and then those of the rest.
abbrev pub Goes : List ℕ → Last → List Item → Type 0
Goes text last items = (rest : List ℕ) (others : List Item) → MayCome last rest → IsItems rest others → IsItems (chars text ++ rest) (items ++ others)

pub record IsSheet (text : List ℕ) (last : Last) : Type 0 where
  pub goes : Goes text last (items_in text)

-- a sheet of this text has these comments and tokens
pub record Holds (text : List ℕ) (last : Last) (items : List Item) : Type 0 where
  pub has : items_in text ≡ items
  pub sheet : IsSheet text last
