-- Two rules of which either may be broken: the first one that is broken is told.
-- Source: this project's notation.
use Rattle.std.specs.Prelude.{Option, Some, None}

abbrev pub or_else : {A : Type 0} → Option A → Option A → Option A
or_else None other = other
or_else (Some a) other = Some a
