-- What the lists and objects that are open while a value is read have paid.
use Rattle.std.specs.Prelude.{◌≡◌, ℕ, ◌+◌, ◌*◌, Vec, vec_len, List, [], ◌∷◌, Result, Ok, Err, Option, Some, None}
use Rattle.std.specs.declared.alloc.Global.{Global}
use denote.RattleType.{RattleType}
use Rattle.graphql_memory.specs.Memory.{credit}
use Rattle.graphql_syntax.specs.inner.Rows.{field_row, merging}
use Rattle.graphql_reading.specs.declared.parser.Refusal.{Refusal}
use Rattle.graphql_reading.specs.reading.Ahead.{Ahead}
use Rattle.graphql_reading.specs.reading.Funds.{SparesGiven, Spares, RefusesGiven}
use Rattle.graphql_reading.specs.reading.Worth.{per_token}
use Rattle.graphql_grammar.specs.declared.value.frames.Open.{Open}
use Rattle.graphql_grammar.specs.declared.value.frames.Open.TheVariants as opens
use Rattle.graphql_grammar.specs.declared.value.frames.Frame.{Frame}
use Rattle.graphql_grammar.specs.declared.value.frames.Frame.TheVariants as frames
use Rattle.graphql_grammar.specs.declared.value.frames.Stop.{Stop}
use Rattle.graphql_grammar.specs.declared.value.frames.Stop.TheVariants.{Closed, Entered}

-- what the fields of an object have paid beyond the places of their list, and for merging them
abbrev pub object_credit : {V : Type 0} → RattleType → Vec (List ℕ × V) Global → ℕ
object_credit R fields = credit (field_row R) fields + merging R * vec_len fields

-- what the items of an open list or the fields of an open object have paid beyond the places of their list
abbrev pub open_credit : {V : Type 0} → RattleType → Open V → ℕ
open_credit R (opens.List items) = credit R items
open_credit R (opens.Object fields) = object_credit R fields

abbrev pub frame_credit : {V : Type 0} → RattleType → Frame V → ℕ
frame_credit R (frames.List items) = credit R items
frame_credit R (frames.Object fields _) = object_credit R fields

abbrev pub frames_credit : {V : Type 0} → RattleType → List (Frame V) → ℕ
frames_credit R [] = 0
frames_credit R (f ∷ fs) = frame_credit R f + frames_credit R fs

-- a list or an object begins, and its bracket pays; or none does, and nothing is taken
abbrev pub Enters : {V : Type 0} → RattleType → Result (Option (Open V)) Refusal → Ahead → Ahead → Type 0
Enters R (Ok (Some o)) old new = (open_credit R o ≡ 0) × Spares per_token old new
Enters R (Ok None) old new = Spares 0 old new
Enters R (Err _) old new = RefusesGiven 0 old new

-- an open list or object, for which so much is paid, is closed, or one inside it is entered: a bracket pays
abbrev pub Stops : {V : Type 0} → RattleType → ℕ → Result (Stop V) Refusal → Ahead → Ahead → Type 0
Stops R given (Ok (Closed _)) old new = SparesGiven given per_token old new
Stops R given (Ok (Entered frame inner)) old new = (open_credit R inner ≡ 0) × SparesGiven given (per_token + frame_credit R frame) old new
Stops R given (Err _) old new = RefusesGiven given old new
