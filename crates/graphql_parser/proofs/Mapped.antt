-- Readers whose trees are mapped.
use Rattle.std.proofs.Common.{◌≡◌, ℕ, zero, suc, Bool, true, false, cond, List, [], ◌∷◌, map, length, refl, ap, ◌∙◌}
use Rattle.graphql_tokens.specs.tokens.Token.{Token}
use Rattle.graphql_reading.specs.grammar.Relations.{cons}
use Rattle.graphql_reading.specs.grammar.Tests.{Test}
use Rattle.graphql_reading.specs.reading.Outcome.{Outcome, Read, Refused, ◌>>=◌, Reader, Takes, mapped_at, repeat_at, many_at, plus_at}
use Rattle.graphql_grammar.proofs.Made.{is-made}

-- an outcome with another tree
abbrev pub mapped : {A B : Type 0} → (A → B) → Outcome A → Outcome B
mapped f o = o >>= λ a rest. Read (f a) rest

-- a mapped phrase takes a token too
pub takes-mapped : {A B : Type 0} (f : A → B) (r : Reader A) → Takes r → Takes (mapped_at f r)
takes-mapped f r takes ts b rest e = let m = is-made f (r ts) b rest e in takes ts m.tree rest m.is

-- ---- phrases that are repeated

abbrev pair-up : {A B : Type 0} → A → B → List Token → Outcome (A × B)
pair-up a b rest = Read (a, b) rest

abbrev cons-read : {A : Type 0} → A × List A → List Token → Outcome (List A)
cons-read x rest = Read (cons x) rest

abbrev listed : {A : Type 0} → Outcome A → Reader (List A) → Outcome (List A)
listed o more = (o >>= λ a rest. more rest >>= pair-up a) >>= cons-read

listed-mapped : {A B : Type 0} (f : A → B) (o : Outcome A) (more : Reader (List A)) (more' : Reader (List B)) → ((ts : List Token) → more' ts ≡ mapped (map f) (more ts)) → listed (mapped f o) more' ≡ mapped (map f) (listed o more)
listed-mapped {A} {B} f (Read a rest) more more' same = ap (λ (o : Outcome (List B)). (o >>= pair-up (f a)) >>= cons-read) (same rest) ∙ go (more rest)
  where
    go : (o : Outcome (List A)) → ((mapped (map f) o >>= pair-up (f a)) >>= cons-read) ≡ mapped (map f) ((o >>= pair-up a) >>= cons-read)
    go (Read others rest') = refl
    go (Refused v rest') = refl
listed-mapped f (Refused v rest) more more' same = refl

repeat-mapped : {A B : Type 0} (f : A → B) (n : ℕ) (first : Test) (r : Reader A) (ts : List Token) → repeat_at n first (mapped_at f r) ts ≡ mapped (map f) (repeat_at n first r ts)
repeat-mapped f zero first r ts = refl
repeat-mapped f (suc n) first r [] = refl
repeat-mapped {A} {B} f (suc n) first r (t ∷ ts) = go (repeat-mapped f n first r) (first t.bare)
  where
    go : ((us : List Token) → repeat_at n first (mapped_at f r) us ≡ mapped (map f) (repeat_at n first r us)) → (w : Bool) → cond w (listed (mapped f (r (t ∷ ts))) (repeat_at n first (mapped_at f r))) (Read [] (t ∷ ts)) ≡ mapped (map f) (cond w (listed (r (t ∷ ts)) (repeat_at n first r)) (Read [] (t ∷ ts)))
    go same true = listed-mapped f (r (t ∷ ts)) (repeat_at n first r) (repeat_at n first (mapped_at f r)) same
    go same false = refl

many-mapped : {A B : Type 0} (f : A → B) (first : Test) (r : Reader A) (ts : List Token) → many_at first (mapped_at f r) ts ≡ mapped (map f) (many_at first r ts)
unfolding many_at
many-mapped f first r ts = repeat-mapped f (suc (length ts)) first r ts

pub plus-mapped : {A B : Type 0} (f : A → B) (first : Test) (r : Reader A) (ts : List Token) → plus_at first (mapped_at f r) ts ≡ mapped_at (map f) (plus_at first r) ts
unfolding plus_at
plus-mapped f first r ts = listed-mapped f (r ts) (many_at first r) (many_at first (mapped_at f r)) (many-mapped f first r)
