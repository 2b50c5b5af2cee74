-- The list that an iterator over an error's places has left.
use Rattle.std.specs.Prelude.{List, [], ◌∷◌}
use Rattle.graphql_tokens.specs.declared.pos.Pos.{Pos}
use Rattle.graphql_grammar.specs.declared.positions.Left.{Left}
use Rattle.graphql_grammar.specs.declared.positions.Left.TheVariants.{Two, One, Zero}

abbrev pub places_of : Left → List Pos
places_of (Two first last) = first ∷ last ∷ []
places_of (One only) = only ∷ []
places_of Zero = []
