-- What the heads of definitions take where the rules are looked at.
use Rattle.std.specs.Prelude.{ℕ, ◌+◌, ◌-◌, ◌*◌, Some, None, List, [], ◌∷◌, length, Result, Ok, Err}
use Rattle.smallvec.specs.SmallVec.{SmallVec, small_vec_len}
use Rattle.graphql_memory.specs.Memory.{small_places}
use Rattle.graphql_reading.specs.declared.parser.Refusal.{Refusal}
use Rattle.graphql_reading.specs.reading.Ahead.{Ahead}
use Rattle.graphql_reading.specs.reading.Funds.{Spares, RefusesGiven}
use Rattle.graphql_parser.specs.declared.check.definitions.Head.{Head}
use Rattle.graphql_parser.specs.declared.check.definitions.Head.TheVariants.{Operation, Fragment}

-- the bytes of a definition's name
abbrev pub name_bytes : Head → ℕ
name_bytes (Operation (Some name) place) = length name.now
name_bytes (Operation None place) = 0
name_bytes (Fragment name place) = length name.now

-- of each a pair of a map, and a name of its own
abbrev pub heads_bytes : List Head → ℕ
heads_bytes [] = 0
heads_bytes (h ∷ hs) = 72 + name_bytes h + heads_bytes hs

-- one head alone is judged without memory
abbrev pub heads_owed : List Head → ℕ
heads_owed (h ∷ []) = 0
heads_owed hs = heads_bytes hs

-- what heads have paid beyond the places of their block: a head is of 48 bytes
abbrev pub heads_credit : SmallVec Head → ℕ
heads_credit heads = 4 * 48 * small_vec_len heads - 48 * small_places 1 heads

-- what was read pays for its heads
abbrev pub HeadsPay : Result (SmallVec Head) Refusal → Ahead → Ahead → Type 0
HeadsPay (Ok heads) old new = Spares (heads_bytes heads.items) old new
HeadsPay (Err _) old new = RefusesGiven 0 old new
