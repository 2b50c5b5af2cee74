-- What reading a document takes.
use Rattle.std.specs.Prelude.{◌≤◌, ℕ, ◌+◌, Result, Ok, Err}
use Rattle.graphql_memory.specs.Memory.{Takes}
use Rattle.graphql_reading.specs.declared.parser.Refusal.{Refusal}
use Rattle.graphql_reading.specs.reading.Ahead.{Ahead}

-- Reading takes so many bytes at most. Where there is a tree, what its document takes is among them.
abbrev pub TakesFor : {X : Type 0} → ℕ → (X → ℕ) → Result X Refusal → Ahead → Ahead → Type 0
TakesFor most owes (Ok x) old new = (old.memory.left + new.memory.lacking + owes x ≤ new.memory.left + old.memory.lacking + most) × (new.memory.left ≤ old.memory.left)
TakesFor most owes (Err _) old new = Takes most old.memory new.memory
