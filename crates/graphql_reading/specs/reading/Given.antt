-- What a reader of the code gives, by what the reader of lists gives.
use Rattle.std.specs.Prelude.{◌≡◌, ◌≤◌, Result, Ok, Err, List, map, Vec}
use Rattle.std.specs.declared.alloc.Global.{Global}
use Rattle.graphql_memory.specs.Memory as memory
use Rattle.graphql_reading.specs.grammar.Fronts.{syntax, limit}
use Rattle.graphql_reading.specs.reading.Ahead.{Ahead, tokens}
use Rattle.graphql_reading.specs.reading.Outcome.{Reader, Read, Refused}
use Rattle.graphql_reading.specs.declared.parser.Refusal.{Refusal}
use Rattle.graphql_reading.specs.declared.parser.Refusal.TheVariants.{Memory, Syntax, Limit}

-- a refusal, with the refused token in hand; or memory that was refused
abbrev pub Refuses : {Y : Type 0} → Refusal → Ahead → Ahead → Reader Y → Type 0
Refuses Memory old new r = memory.Refused new.memory
Refuses Syntax old new r = r (tokens old) ≡ Refused syntax (tokens new)
Refuses Limit old new r = r (tokens old) ≡ Refused limit (tokens new)

-- the tree and the tokens after it, or a refusal
abbrev pub Told : {X Y : Type 0} → (X → Y) → Result X Refusal → Ahead → Ahead → Reader Y → Type 0
Told view (Ok x) old new r = r (tokens old) ≡ Read (view x) (tokens new)
Told view (Err refusal) old new r = Refuses refusal old new r

-- the same, where the last token is read: it stays in hand
abbrev pub ToldWhole : {X Y : Type 0} → (X → Y) → Result X Refusal → Ahead → Ahead → Reader Y → Type 0
ToldWhole view (Ok x) old new r = r (tokens old) ≡ Read (view x) new.after
ToldWhole view (Err refusal) old new r = Refuses refusal old new r

-- the parser takes tokens of its text, and gives none back
abbrev pub GoesOn : Ahead → Ahead → Type 0
GoesOn old new = (new.source ≡ old.source) × (old.taken ≤ new.taken)

abbrev pub Gives : {X Y : Type 0} → (X → Y) → Result X Refusal → Ahead → Ahead → Reader Y → Type 0
Gives view result old new r = Told view result old new r × GoesOn old new

abbrev pub GivesWhole : {X Y : Type 0} → (X → Y) → Result X Refusal → Ahead → Ahead → Reader Y → Type 0
GivesWhole view result old new r = ToldWhole view result old new r × GoesOn old new

-- the trees of a list
abbrev pub trees_in : {X Y : Type 0} → (X → Y) → Vec X Global → List Y
trees_in view list = map view list.items
