-- What it means that the heap refused memory.
use Rattle.std.specs.Prelude.{◌≢◌}
use Rattle.graphql_memory.specs.declared.Memory.{Memory}

-- it refused a request in between
abbrev pub HeapRefused : Memory → Memory → Type 0
HeapRefused old new = new.refusals ≢ old.refusals
