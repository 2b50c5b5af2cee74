-- Productions that have each phrase of another, with the same tree.
use Rattle.std.proofs.Common.{inl, inr, Option, Some, None, List, [], ◌∷◌}
use Rattle.graphql_tokens.specs.tokens.Token.{Bare, Token}
use Rattle.graphql_reading.specs.grammar.Fronts.{whole}
use Rattle.graphql_reading.specs.grammar.Limits.{Limits}
use Rattle.graphql_reading.specs.grammar.Relations.{Rel, one, meaning, ◌⨾◌, ◌∪◌, mapped, star, plus, opt, between, after}
use Rattle.graphql_reading.specs.grammar.Tests.{Test, the_end}

pub record Includes {A : Type 0} (p q : Rel A) : Type 0 where
  pub by : (x : List Token) (t : A) → p x t → q x t

pub includes-same : {A : Type 0} {p : Rel A} → Includes p p
includes-same = record { by = λ x t h. h }

pub includes-meaning : {A : Type 0} (test : Test) {m n : Bare → A → Type 0} → ((t : Bare) (a : A) → m t a → n t a) → Includes (meaning test m) (meaning test n)
includes-meaning test h = record { by = λ x t k. (k.0, k.1, h t.0.bare t.1 k.2) }

pub includes-then : {A B : Type 0} {p q : Rel A} {r s : Rel B} → Includes p q → Includes r s → Includes (p ⨾ r) (q ⨾ s)
includes-then h k = record { by = λ x t m. record { front = m.front; back = m.back; joined = m.joined; first = h.by m.front t.0 m.first; second = k.by m.back t.1 m.second } }

pub includes-either : {A : Type 0} {p q r s : Rel A} → Includes p q → Includes r s → Includes (p ∪ r) (q ∪ s)
includes-either {A} {p} {q} {r} {s} h k = record { by = by }
  where
    by : (x : List Token) (t : A) → (p ∪ r) x t → (q ∪ s) x t
    by x t (inl m) = inl (h.by x t m)
    by x t (inr m) = inr (k.by x t m)

pub includes-mapped : {A B : Type 0} {f : A → B} {p q : Rel A} → Includes p q → Includes (mapped f p) (mapped f q)
includes-mapped h = record { by = λ x t m. record { value = m.value; holds = h.by x m.value m.holds; is = m.is } }

pub includes-opt : {A : Type 0} {p q : Rel A} → Includes p q → Includes (opt p) (opt q)
includes-opt {A} {p} {q} h = record { by = by }
  where
    by : (x : List Token) (t : Option A) → opt p x t → opt q x t
    by x None m = m
    by x (Some a) m = h.by x a m

pub includes-star : {A : Type 0} {p q : Rel A} → Includes p q → Includes (star p) (star q)
includes-star {A} {p} {q} h = record { by = by }
  where
    by : (x : List Token) (ts : List A) → star p x ts → star q x ts
    by x [] m = m
    by x (t ∷ ts) m = record { front = m.front; back = m.back; joined = m.joined; first = h.by m.front t m.first; second = by m.back ts m.second }

pub includes-plus : {A : Type 0} {p q : Rel A} → Includes p q → Includes (plus p) (plus q)
includes-plus h = includes-mapped (includes-then h (includes-star h))

pub includes-between : {A : Type 0} (opening closing : Test) {p q : Rel A} → Includes p q → Includes (between opening p closing) (between opening q closing)
includes-between opening closing h = includes-mapped (includes-then (includes-same {p = one opening}) (includes-then h (includes-same {p = one closing})))

pub includes-after : {A : Type 0} (mark : Test) {p q : Rel A} → Includes p q → Includes (after mark p) (after mark q)
includes-after mark h = includes-mapped (includes-then (includes-same {p = one mark}) h)

pub includes-whole : {A : Type 0} {p q : Limits → Rel A} → ((c : Limits) → Includes (p c) (q c)) → (c : Limits) → Includes (whole p c) (whole q c)
includes-whole h c = includes-mapped (includes-then (h c) (includes-same {p = one the_end}))
