-- Descriptions, and where what they describe stands (GraphQL October 2021, section 3.2).
use Rattle.std.specs.Prelude.{ℕ, Some, None, List}
use Rattle.graphql_tokens.specs.declared.pos.Pos.{Pos}
use Rattle.graphql_tokens.specs.declared.pos.Positioned.{Positioned}
use Rattle.graphql_tokens.specs.tokens.Edition.{Edition}
use Rattle.graphql_tokens.specs.tokens.Token.{Token}
use Rattle.graphql_trees.specs.trees.Schema.{Description}
use Rattle.graphql_grammar.specs.grammar.Values.{StringStands, BlockStands}
use Rattle.graphql_reading.specs.grammar.Places.{at}
use Rattle.graphql_reading.specs.grammar.Relations.{Rel, meaning, ◌∪◌, mapped}
use Rattle.graphql_reading.specs.grammar.Tests.{any_string, any_block}

abbrev pub Text : Type 0
Text = Positioned (List ℕ)

abbrev pub text_of : Token × List ℕ → Text
text_of (t, bytes) = at t bytes

-- Description : StringValue
-- It stands at its opening quote.
abbrev pub a_description : Edition → Rel Text
a_description edition = mapped text_of (meaning any_string (StringStands edition)) ∪ mapped text_of (meaning any_block BlockStands)

-- what has a description stands at it, and else at its own first token
abbrev pub place_of : Description → Pos → Pos
place_of None first = first
place_of (Some text) first = text.pos

abbrev pub described : {A : Type 0} → Description → Token → A → Positioned A
described description first node = record { pos = place_of description first.pos; node = node }
