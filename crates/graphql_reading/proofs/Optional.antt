-- Alternatives that may be empty or have no phrases, and optional parts by the token in sight.
use Rattle.std.proofs.Common.{◌≡◌, true, false, Option, Some, None, List, [], ◌∷◌, ◌++◌, ◌↔◌, inl, inr, refl, sym, ap, ◌∙◌, subst}
use Rattle.graphql_tokens.specs.tokens.Token.{Token}
use Rattle.graphql_reading.specs.grammar.Fronts.{syntax}
use Rattle.graphql_reading.specs.grammar.Tests.{Test}
use Rattle.graphql_reading.specs.grammar.Limits.{Limits}
use Rattle.graphql_reading.specs.grammar.Relations.{Rel, never, ◌∪◌, star, plus}
use Rattle.graphql_reading.specs.reading.Outcome.{Outcome, Read, Refused, Reader, ◌>>=◌, then_at, mapped_at, choose_at, none_at, opt_at}
use Rattle.graphql_reading.proofs.Parts.{none}
use Rattle.graphql_reading.proofs.Theory.{Begins, Dead, IfHead, peek, Exact, Starts, IsSubset, outside, within-begins, leads-starts, choose-exact, none-exact}
use Rattle.graphql_reading.proofs.ReadsExactly.{ReadsExactly, BeginsWith}
use Rattle.graphql_reading.proofs.Extra.{FirstWithin}

-- ---- alternatives of which the second may be empty

pub exact-choose_ahead : {A : Type 0} {p q : Limits → Rel A} {b : Limits} {f first : Test} {r s : Reader A} → BeginsWith p first → FirstWithin q f (outside first) → ReadsExactly p b f r → ReadsExactly q b f s → ReadsExactly (λ c. p c ∪ q c) b f (choose_at first r s)
exact-choose_ahead {p = p} {q = q} {b = b} {f = f} {first = first} {r = r} {s = s} leads out h k = record { at = λ ts. choose-exact p q b f first r s ts (leads-starts p f first leads.by) out.by (h.at ts) (k.at ts) }

pub exact-none : {A : Type 0} {a : A} {b : Limits} {f : Test} → ReadsExactly (λ c. none a) b f (none_at a)
exact-none {a = a} {b = b} {f = f} = record { at = none-exact a b f }

pub first-none : {A : Type 0} {a : A} {f g : Test} → IsSubset f g → FirstWithin (λ c. none a) f g
first-none {f = f} {g = g} h = record { by = λ c x y t m begins. within-begins f g h (x ++ y) (subst (λ (l : List Token). Begins f (l ++ y)) (sym m.0) begins) }

pub first-either : {A : Type 0} {p q : Limits → Rel A} {f g : Test} → FirstWithin p f g → FirstWithin q f g → FirstWithin (λ c. p c ∪ q c) f g
first-either {p = p} {q = q} {f = f} {g = g} h k = record { by = by }
  where
    by : Starts (λ c. p c ∪ q c) f g
    by c x y a (inl m) begins = h.by c x y a m begins
    by c x y a (inr m) begins = k.by c x y a m begins

-- ---- no phrases

-- each list is refused at its first token
pub exact-never : {A : Type 0} {b : Limits} {f : Test} → ReadsExactly (λ c. never {A = A}) b f (λ ts. Refused syntax ts)
exact-never {A} {b} {f} = record { at = λ ts. record { before = []; split = refl; quiet = tt; alive = inl refl; dead = none ts } }
  where
    none : (ts : List Token) → IfHead ts (Dead (λ c. never {A = A}) b f syntax (peek ts))
    none [] = tt
    none (t ∷ ts) = λ c x y z a h begins e. h

pub begins-never : {A : Type 0} {g : Test} → BeginsWith (λ c. never {A = A}) g
begins-never = record { by = λ c x y a m. absurd m }

pub or-never : {A : Type 0} (p : Rel A) (x : List Token) (t : A) → (p ∪ never) x t ↔ p x t
or-never p x t = (λ h. elim h [ inl k ↦ k | inr k ↦ absurd k ], λ h. inl h)

-- ---- readers

-- one reader in place of another
pub exact-reader : {A : Type 0} {p : Limits → Rel A} {b : Limits} {f : Test} {r s : Reader A} → ((ts : List Token) → r ts ≡ s ts) → ReadsExactly p b f r → ReadsExactly p b f s
exact-reader {p = p} {b = b} {f = f} e h = record { at = λ ts. subst (Exact p b f ts) (e ts) (h.at ts) }

-- ---- optional parts by the token in sight

pub opt-taken : {A : Type 0} (first : Test) (r : Reader A) (t : Token) (ts : List Token) → first t.bare ≡ true → opt_at first r (t ∷ ts) ≡ mapped_at Some r (t ∷ ts)
unfolding opt_at
opt-taken first r t ts e = rw e refl

pub opt-left : {A : Type 0} (first : Test) (r : Reader A) (t : Token) (ts : List Token) → first t.bare ≡ false → opt_at first r (t ∷ ts) ≡ Read None (t ∷ ts)
unfolding opt_at
opt-left first r t ts e = rw e refl

abbrev pub with-some : {A B : Type 0} → A × B → Option A × B
with-some x = (Some x.0, x.1)

-- an optional part that is there, and another
pub opt-then : {A B : Type 0} (first : Test) (r : Reader A) (s : Reader B) (t : Token) (ts : List Token) → first t.bare ≡ true → then_at (opt_at first r) s (t ∷ ts) ≡ mapped_at with-some (then_at r s) (t ∷ ts)
opt-then {A} {B} first r s t ts e = ap (λ (o : Outcome (Option A)). o >>= λ a rest. s rest >>= λ b rest'. Read (a, b) rest') (opt-taken first r t ts e) ∙ go (r (t ∷ ts))
  where
    pairs : (a : A) (o : Outcome B) → (o >>= λ b rest'. Read (Some a, b) rest') ≡ ((o >>= λ b rest'. Read (a, b) rest') >>= λ x rest. Read (with-some x) rest)
    pairs a (Read b rest) = refl
    pairs a (Refused v rest) = refl

    go : (o : Outcome A) → ((o >>= λ a rest. Read (Some a) rest) >>= λ a rest. s rest >>= λ b rest'. Read (a, b) rest') ≡ ((o >>= λ a rest. s rest >>= λ b rest'. Read (a, b) rest') >>= λ x rest. Read (with-some x) rest)
    go (Read a rest) = pairs a (s rest)
    go (Refused v rest) = refl

-- ---- one or more are any number

pub plus-star : {A : Type 0} (p : Rel A) (x : List Token) (l : List A) → plus p x l → star p x l
plus-star p x l m = subst (λ (l : List _). star p x l) (sym m.is) (record { front = m.holds.front; back = m.holds.back; joined = m.holds.joined; first = m.holds.first; second = m.holds.second })

pub star-plus : {A : Type 0} (p : Rel A) (x : List Token) (a : A) (l : List A) → star p x (a ∷ l) → plus p x (a ∷ l)
star-plus p x a l m = record { value = (a, l); holds = record { front = m.front; back = m.back; joined = m.joined; first = m.first; second = m.second }; is = refl }
