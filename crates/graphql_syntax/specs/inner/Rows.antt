-- The types of a field and of an argument, by the type of their value, and what a field takes where names come twice.
use Rattle.std.specs.Prelude.{ℕ, ◌+◌, [], ◌∷◌}
use denote.RattleType.{RattleType}
use denote.Struct.Tuple.{Tuple}
use Rattle.graphql_memory.specs.Memory.{bytes}
use Rattle.graphql_tokens.specs.contracts.name.Name as name
use Rattle.graphql_tokens.specs.contracts.pos.Positioned as positioned

abbrev pub field_row : RattleType → RattleType
field_row R = Tuple (name.the_row ∷ R ∷ [])

abbrev pub argument_row : RattleType → RattleType
argument_row R = Tuple (positioned.the_row name.the_row ∷ positioned.the_row R ∷ [])

-- what a field takes where the fields of an object are merged: a place in a second list, a number, and a pair of a map
abbrev pub merging : RattleType → ℕ
merging R = 40 + bytes (field_row R)
