-- What the selections of the sets that are open have paid, and what a definition takes in a document.
use Rattle.std.specs.Prelude.{ℕ, ◌+◌, ◌*◌, Vec, vec_len, Result, Ok, Err, Option, Some, None}
use Rattle.std.specs.declared.alloc.Global.{Global}
use denote.RattleType.{RattleType}
use Rattle.graphql_memory.specs.Memory.{bytes, credit}
use Rattle.graphql_reading.specs.declared.parser.Refusal.{Refusal}
use Rattle.graphql_reading.specs.reading.Ahead.{Ahead}
use Rattle.graphql_reading.specs.reading.Funds.{SparesGiven, RefusesGiven}
use Rattle.graphql_reading.specs.reading.Worth.{per_token}
use Rattle.graphql_tokens.specs.contracts.pos.Positioned as positioned
use Rattle.graphql_trees.specs.contracts.executable.Selection as selection

-- the type of a selection with its place
abbrev pub selection_row : RattleType
selection_row = positioned.the_row selection.the_row

-- what they have paid beyond the places of their list, and for a place in the list of their own set
abbrev pub selections_credit : {X : Type 0} → Vec X Global → ℕ
selections_credit items = credit selection_row items + bytes selection_row * vec_len items

-- a selection is put after these; where a set begins with it, the bracket pays
abbrev pub PaysOnto : {X Y : Type 0} → Vec Y Global → Vec Y Global → Result (Option X) Refusal → Ahead → Ahead → Type 0
PaysOnto items more (Ok (Some _)) old new = SparesGiven (selections_credit items) (selections_credit more + per_token) old new
PaysOnto items more (Ok None) old new = SparesGiven (selections_credit items) (selections_credit more) old new
PaysOnto items more (Err _) old new = RefusesGiven (selections_credit items) old new

-- the same, where the bracket of its set pays for the selection
abbrev pub PaysInline : {X Y : Type 0} → Vec Y Global → Vec Y Global → Result X Refusal → Ahead → Ahead → Type 0
PaysInline items more (Ok _) old new = SparesGiven (selections_credit items) (selections_credit more) old new
PaysInline items more (Err _) old new = RefusesGiven (selections_credit items) old new

-- what a definition takes at most where it is put in a map by its name
abbrev pub definition_bytes : ℕ
definition_bytes = 256
