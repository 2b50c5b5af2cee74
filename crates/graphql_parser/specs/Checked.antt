-- What a reader gives that makes no tree, by what the reader of lists gives.
use Rattle.std.specs.Prelude.{◌≡◌, Option, Some, None, Result, Ok, Err, List}
use Rattle.graphql_tokens.specs.tokens.Token.{Token}
use Rattle.graphql_reading.specs.reading.Ahead.{Ahead, tokens}
use Rattle.graphql_reading.specs.reading.Funds.{Spares}
use Rattle.graphql_reading.specs.reading.Given.{GoesOn, Refuses}
use Rattle.graphql_reading.specs.reading.Outcome.{Outcome, Reader, Read, Refused}
use Rattle.graphql_reading.specs.declared.parser.Refusal.{Refusal}

-- the tokens after the tree, where one is read
abbrev pub rest_of : {Y : Type 0} → Outcome Y → Option (List Token)
rest_of (Read tree rest) = Some rest
rest_of (Refused v rest) = None

-- without its tree
abbrev pub ended : {Y : Type 0} → Outcome Y → Outcome (Unit {0})
ended (Read tree rest) = Read tt rest
ended (Refused v rest) = Refused v rest

-- there is a tree, and the tokens after it are those ahead now; or a refusal
abbrev pub Told : {X Y : Type 0} → Result X Refusal → Ahead → Ahead → Reader Y → Type 0
Told (Ok x) old new r = rest_of (r (tokens old)) ≡ Some (tokens new)
Told (Err refusal) old new r = Refuses refusal old new r

abbrev pub Checks : {X Y : Type 0} → Result X Refusal → Ahead → Ahead → Reader Y → Type 0
Checks result old new r = Told result old new r × GoesOn old new

-- no memory was asked for, and no token came back
abbrev pub Calm : Ahead → Ahead → Type 0
Calm old new = (new.memory ≡ old.memory) × Spares 0 old new
