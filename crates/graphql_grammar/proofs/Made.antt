-- Where something is made of what a reader reads: what it reads then, and where it refuses.
use Rattle.std.proofs.Common.{◌≡◌, List}
use Rattle.graphql_tokens.specs.tokens.Token.{Token}
use Rattle.graphql_reading.specs.declared.parser.Refusal.{Refusal}
use Rattle.graphql_reading.specs.declared.parser.Refusal.TheVariants.{Memory, Syntax, Limit}
use Rattle.graphql_reading.specs.grammar.Fronts.{Verdict, syntax, limit}
use Rattle.graphql_reading.specs.reading.Ahead.{Ahead, tokens}
use Rattle.graphql_reading.specs.reading.Given.{Refuses}
use Rattle.graphql_reading.specs.reading.Outcome.{Outcome, Read, Refused, Reader, ◌>>=◌, mapped_at}

pub record IsMade {Y X : Type 0} (item : Y → X) (o : Outcome Y) (x : X) (rest : List Token) : Type 0 where
  pub tree : Y
  pub is : o ≡ Read tree rest
  pub made : x ≡ item tree

pub is-made : {Y X : Type 0} (item : Y → X) (o : Outcome Y) (x : X) (rest : List Token) → (o >>= λ a rest'. Read (item a) rest') ≡ Read x rest → IsMade item o x rest
is-made item (Read tree rest') x rest e = record { tree = tree; is = (cc); made = (cc) }
is-made item (Refused v rest') x rest e = absurd cc

pub unmade : {Y X : Type 0} (item : Y → X) (o : Outcome Y) (v : Verdict) (rest : List Token) → (o >>= λ a rest'. Read (item a) rest') ≡ Refused v rest → o ≡ Refused v rest
unmade item (Read tree rest') v rest e = absurd cc
unmade item (Refused w rest') v rest e = cc

pub refuses-made : {Y X : Type 0} (item : Y → X) (r : Reader Y) (e : Refusal) (old new : Ahead) → Refuses e old new (mapped_at item r) → Refuses e old new r
refuses-made item r Memory old new h = h
refuses-made item r Syntax old new h = unmade item (r (tokens old)) syntax (tokens new) h
refuses-made item r Limit old new h = unmade item (r (tokens old)) limit (tokens new) h
