-- Relations that proofs alone name: no token, and one level deeper.
use Rattle.std.proofs.Common.{◌≡◌, ℕ, zero, suc, []}
use Rattle.graphql_reading.specs.grammar.Relations.{Rel, never}
use Rattle.graphql_reading.specs.grammar.Limits.{Limits}

-- no token
abbrev pub none : {A : Type 0} → A → Rel A
none a used x = (used ≡ []) × (x ≡ a)

-- what nests
pub data Nesting : Type 0 where
  of_selections : Nesting
  of_values : Nesting
  of_types : Nesting

abbrev pub left : Nesting → Limits → ℕ
left of_selections c = c.selections
left of_values c = c.values
left of_types c = c.types

abbrev pub leave : Nesting → Limits → ℕ → Limits
leave of_selections c n = record c { selections = n }
leave of_values c n = record c { values = n }
leave of_types c n = record c { types = n }

-- one level deeper: within a budget of 0 there is none
abbrev pub below : {A : Type 0} → Nesting → (Limits → Rel A) → Limits → ℕ → Rel A
below k p c zero used x = never used x
below k p c (suc n) used x = p (leave k c n) used x

abbrev pub nested : {A : Type 0} → Nesting → (Limits → Rel A) → Limits → Rel A
nested k p c used x = below k p c (left k c) used x
