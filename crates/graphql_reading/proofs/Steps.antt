-- What a reader of the code gives, from what it gives after a step.
use Rattle.std.proofs.Common.{◌≡◌, Result, Ok, Err, ◌∙◌}
use Rattle.graphql_reading.specs.declared.parser.Refusal.{Refusal}
use Rattle.graphql_reading.specs.declared.parser.Refusal.TheVariants.{Memory, Syntax, Limit}
use Rattle.graphql_reading.specs.reading.Ahead.{Ahead, tokens}
use Rattle.graphql_reading.specs.reading.Given.{Gives, Told, GoesOn}
use Rattle.graphql_reading.specs.reading.Outcome.{Reader}
use Rattle.graphql_reading.proofs.Loops.{go-on}

told-after : {X Y : Type 0} (view : X → Y) (result : Result X Refusal) (old middle new : Ahead) (whole rest : Reader Y) → whole (tokens old) ≡ rest (tokens middle) → Told view result middle new rest → Told view result old new whole
told-after view (Ok x) old middle new whole rest e h = e ∙ h
told-after view (Err Memory) old middle new whole rest e h = h
told-after view (Err Syntax) old middle new whole rest e h = e ∙ h
told-after view (Err Limit) old middle new whole rest e h = e ∙ h

-- the step takes tokens, and the rest is what the whole gives
pub gives-after : {X Y : Type 0} (view : X → Y) (result : Result X Refusal) (old middle new : Ahead) (whole rest : Reader Y) → whole (tokens old) ≡ rest (tokens middle) → GoesOn old middle → Gives view result middle new rest → Gives view result old new whole
gives-after view result old middle new whole rest e on h = (told-after view result old middle new whole rest e h.0, go-on old middle new on h.1)
