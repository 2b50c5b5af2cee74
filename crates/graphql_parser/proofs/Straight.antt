-- What is left to read after the first of two readers has read, where its tree isn't kept.
use Rattle.std.proofs.Common.{◌≡◌, List, Some, refl, sym, ap, ◌∙◌}
use Rattle.graphql_tokens.specs.tokens.Token.{Token}
use Rattle.graphql_reading.specs.reading.Outcome.{Outcome, Read, Refused, Reader, ◌>>=◌, then_at, mapped_at}
use Rattle.graphql_parser.specs.Checked.{rest_of}
use Rattle.graphql_parser.proofs.Rests.{ended, is-read}

pub ended-mapped : {A B : Type 0} (f : A → B) (r : Reader A) (ts : List Token) → ended (mapped_at f r ts) ≡ ended (r ts)
ended-mapped {A} {B} f r ts = go (r ts)
  where
    go : (o : Outcome A) → ended (o >>= λ a rest. Read (f a) rest) ≡ ended o
    go (Read a rest) = refl
    go (Refused v rest) = refl

rest-ended : {A : Type 0} (o : Outcome A) → rest_of (ended o) ≡ rest_of o
rest-ended (Read a rest) = refl
rest-ended (Refused v rest) = refl

pub rest-mapped : {A B : Type 0} (f : A → B) (r : Reader A) (ts : List Token) → rest_of (mapped_at f r ts) ≡ rest_of (r ts)
rest-mapped f r ts = sym (rest-ended (mapped_at f r ts)) ∙ ap rest_of (ended-mapped f r ts) ∙ rest-ended (r ts)

pub mapped-twice : {A B C : Type 0} (f : A → B) (g : B → C) (r : Reader A) (ts : List Token) → mapped_at g (mapped_at f r) ts ≡ mapped_at (λ a. g (f a)) r ts
mapped-twice {A} {B} {C} f g r ts = go (r ts)
  where
    go : (o : Outcome A) → ((o >>= λ a rest. Read (f a) rest) >>= λ b rest. Read (g b) rest) ≡ (o >>= λ a rest. Read (g (f a)) rest)
    go (Read a rest) = refl
    go (Refused v rest) = refl

-- the first has read, and the second is to
pub past : {A B : Type 0} (r : Reader A) (s : Reader B) (ts mid : List Token) → rest_of (r ts) ≡ Some mid → ended (then_at r s ts) ≡ ended (s mid)
past {A} {B} r s ts mid h =
    let read = is-read (r ts) mid h in
    ap (λ (o : Outcome A). ended {Y = A × B} (o >>= λ a rest. s rest >>= λ b rest'. Read (a, b) rest')) read.is ∙ go read.tree (s mid)
  where
    go : (a : A) (o : Outcome B) → ended {Y = A × B} (o >>= λ b rest. Read (a, b) rest) ≡ ended o
    go a (Read b rest) = refl
    go a (Refused v rest) = refl

-- the same, where something of the second is seen
pub past-seen : {A B C : Type 0} (g : B → C) (r : Reader A) (s : Reader B) (ts mid : List Token) → rest_of (r ts) ≡ Some mid → mapped_at (λ x. g x.1) (then_at r s) ts ≡ mapped_at g s mid
past-seen {A} {B} {C} g r s ts mid h =
    let read = is-read (r ts) mid h in
    ap (λ (o : Outcome A). seen (o >>= λ a rest. s rest >>= λ b rest'. pair a b rest')) read.is ∙ go read.tree (s mid)
  where
    pair : A → B → List Token → Outcome (A × B)
    pair a b rest = Read (a, b) rest

    seen : Outcome (A × B) → Outcome C
    seen o = o >>= λ x rest. Read (g x.1) rest

    go : (a : A) (o : Outcome B) → seen (o >>= pair a) ≡ (o >>= λ b rest. Read (g b) rest)
    go a (Read b rest) = refl
    go a (Refused v rest) = refl
