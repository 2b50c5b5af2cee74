-- What is known where the tokens after a tree are.
use Rattle.std.proofs.Common.{◌≡◌, Some, List, refl}
use Rattle.graphql_tokens.specs.tokens.Token.{Token}
use Rattle.graphql_reading.specs.grammar.Fronts.{Verdict}
use Rattle.graphql_reading.specs.reading.Ahead.{Ahead, tokens}
use Rattle.graphql_reading.specs.reading.Given.{GoesOn}
use Rattle.graphql_reading.specs.reading.Outcome.{Outcome, Reader, Read, Refused, with_front}
pub use Rattle.graphql_parser.specs.Checked.{ended}
use Rattle.graphql_parser.specs.Checked.{rest_of}

-- a tree is read, and the parser has come past it
abbrev pub Passed : {Y : Type 0} → Ahead → Ahead → Reader Y → Type 0
Passed old new r = (rest_of (r (tokens old)) ≡ Some (tokens new)) × GoesOn old new

pub record IsRead {Y : Type 0} (o : Outcome Y) (rest : List Token) : Type 0 where
  pub tree : Y
  pub is : o ≡ Read tree rest

pub is-read : {Y : Type 0} (o : Outcome Y) (rest : List Token) → rest_of o ≡ Some rest → IsRead o rest
is-read (Read tree rest') rest e = record { tree = tree; is = (cc) }
is-read (Refused v rest') rest e = absurd cc

pub ended-read : {Y : Type 0} (o : Outcome Y) (rest : List Token) → ended o ≡ Read tt rest → rest_of o ≡ Some rest
ended-read (Read tree rest') rest e = cc
ended-read (Refused v rest') rest e = absurd cc

pub ended-refused : {Y : Type 0} (o : Outcome Y) (v : Verdict) (rest : List Token) → ended o ≡ Refused v rest → o ≡ Refused v rest
ended-refused (Read tree rest') v rest e = absurd cc
ended-refused (Refused w rest') v rest e = cc

pub front-ended : {Y : Type 0} (front : List Y) (o : Outcome (List Y)) → ended (with_front front o) ≡ ended o
front-ended front (Read items rest) = refl
front-ended front (Refused v rest) = refl
