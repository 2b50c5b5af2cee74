-- What readers take of what tokens pay for. The bytes that are asked for are counted whether they were had or not.
use Rattle.std.specs.Prelude.{◌≤◌, ℕ, ◌+◌, ◌*◌, length, Result, Ok, Err, Vec, vec_len}
use Rattle.std.specs.declared.alloc.Global.{Global}
use Rattle.graphql_reading.specs.reading.Ahead.{Ahead, tokens}
use Rattle.graphql_reading.specs.reading.Worth.{per_token, worth}
use Rattle.graphql_reading.specs.declared.parser.Refusal.{Refusal}

-- the tokens read in between, and so many bytes that were given, paid for what was taken and for so many bytes more
abbrev pub SparesGiven : ℕ → ℕ → Ahead → Ahead → Type 0
SparesGiven given more old new =
    (old.memory.left + new.memory.lacking + worth (tokens new) + more ≤ new.memory.left + old.memory.lacking + worth (tokens old) + given)
    × (new.memory.left ≤ old.memory.left)

abbrev pub Spares : ℕ → Ahead → Ahead → Type 0
Spares more old new = SparesGiven 0 more old new

-- of a refusal: the tokens read in between, the refused one, and what was given paid for what was taken
abbrev pub RefusesGiven : ℕ → Ahead → Ahead → Type 0
RefusesGiven given old new = SparesGiven (given + per_token + length new.hand.bare.spelling) 0 old new

-- what was read pays for so many bytes more than it took
abbrev pub Pays : {X : Type 0} → ℕ → Result X Refusal → Ahead → Ahead → Type 0
Pays more (Ok _) old new = Spares more old new
Pays more (Err _) old new = RefusesGiven 0 old new

-- the same of a list, each of whose items pays
abbrev pub PaysEach : {X : Type 0} → ℕ → Result (Vec X Global) Refusal → Ahead → Ahead → Type 0
PaysEach each (Ok list) old new = Spares (each * vec_len list) old new
PaysEach each (Err _) old new = RefusesGiven 0 old new
