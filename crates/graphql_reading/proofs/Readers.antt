-- Laws of readers, whatever they read.
use Rattle.std.proofs.Common.{◌≡◌, List, refl}
use Rattle.graphql_tokens.specs.tokens.Token.{Token}
use Rattle.graphql_reading.specs.reading.Outcome.{Outcome, Read, Refused, Reader, ◌>>=◌, then_at, mapped_at}

-- what goes on after a mapped reader
pub mapped-on : {A B C : Type 0} (f : A → B) (r : Reader A) (k : B → Reader C) (ts : List Token) → (mapped_at f r ts >>= k) ≡ (r ts >>= λ a rest. k (f a) rest)
mapped-on {A} {B} {C} f r k ts = go (r ts)
  where
    go : (o : Outcome A) → ((o >>= λ a rest. Read (f a) rest) >>= k) ≡ (o >>= λ a rest. k (f a) rest)
    go (Read a rest) = refl
    go (Refused v rest) = refl

-- what goes on after two readers
pub then-on : {A B C : Type 0} (r : Reader A) (s : Reader B) (k : A × B → Reader C) (ts : List Token) → (then_at r s ts >>= k) ≡ (r ts >>= λ a rest. s rest >>= λ b rest'. k (a, b) rest')
then-on {A} {B} {C} r s k ts = go (r ts)
  where
    pair : A → B → List Token → Outcome (A × B)
    pair a b rest = Read (a, b) rest

    inner : (a : A) (o : Outcome B) → ((o >>= pair a) >>= k) ≡ (o >>= λ b rest'. k (a, b) rest')
    inner a (Read b rest) = refl
    inner a (Refused v rest) = refl

    go : (o : Outcome A) → ((o >>= λ a rest. s rest >>= pair a) >>= k) ≡ (o >>= λ a rest. s rest >>= λ b rest'. k (a, b) rest')
    go (Read a rest) = inner a (s rest)
    go (Refused v rest) = refl

-- readers that give the same after the first give the same
pub on-same : {A B : Type 0} (o : Outcome A) (k l : A → Reader B) → ((a : A) (rest : List Token) → k a rest ≡ l a rest) → (o >>= k) ≡ (o >>= l)
on-same (Read a rest) k l e = e a rest
on-same (Refused v rest) k l e = refl

-- what goes on after two parts
pub grouped : {A B C : Type 0} (o : Outcome A) (k : A → Reader B) (l : B → Reader C) → ((o >>= k) >>= l) ≡ (o >>= λ a rest. k a rest >>= l)
grouped (Read a rest) k l = refl
grouped (Refused v rest) k l = refl
