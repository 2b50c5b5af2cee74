-- What holds of each tree of a production, from what holds of the trees of its parts.
use Rattle.std.proofs.Common.{inl, inr, Option, Some, None, List, [], ◌∷◌, sym, subst}
use Rattle.std.specs.List.{AllByRecursion}
use Rattle.graphql_tokens.specs.tokens.Token.{Token}
use Rattle.graphql_reading.specs.grammar.Fronts.{whole}
use Rattle.graphql_reading.specs.grammar.Limits.{Limits}
use Rattle.graphql_reading.specs.grammar.Relations.{Rel, one, never, ◌⨾◌, ◌∪◌, mapped, star, plus, opt, given, between, after}
use Rattle.graphql_reading.specs.grammar.Tests.{Test, the_end}

pub record Keeps {A : Type 0} (p : Rel A) (P : A → Type 0) : Type 0 where
  pub by : (x : List Token) (t : A) → p x t → P t

abbrev pub Anything : {A : Type 0} → A → Type 0
Anything a = Unit {0}

abbrev pub BothOf : {A B : Type 0} → (A → Type 0) → (B → Type 0) → A × B → Type 0
BothOf P Q x = P x.0 × Q x.1

abbrev pub OfOption : {A : Type 0} → (A → Type 0) → Option A → Type 0
OfOption P None = Unit {0}
OfOption P (Some a) = P a

-- a list that isn't there is empty
pub of-given : {A : Type 0} (P : List A → Type 0) → P [] → (list : Option (List A)) → OfOption P list → P (given list)
of-given P empty None h = empty
of-given P empty (Some list) h = h

pub keeps-any : {A : Type 0} {p : Rel A} → Keeps p Anything
keeps-any = record { by = λ x t h. tt }

pub keeps-never : {A : Type 0} {P : A → Type 0} → Keeps never P
keeps-never = record { by = λ x t h. absurd h }

pub keeps-more : {A : Type 0} {p : Rel A} {P Q : A → Type 0} → ((a : A) → P a → Q a) → Keeps p P → Keeps p Q
keeps-more h k = record { by = λ x t m. h t (k.by x t m) }

pub keeps-mapped : {A B : Type 0} {f : A → B} {p : Rel A} {P : A → Type 0} {Q : B → Type 0} → ((a : A) → P a → Q (f a)) → Keeps p P → Keeps (mapped f p) Q
keeps-mapped {A} {B} {f} {p} {P} {Q} h k = record { by = λ x t m. subst Q (sym m.is) (h m.value (k.by x m.value m.holds)) }

pub keeps-then : {A B : Type 0} {p : Rel A} {q : Rel B} {P : A → Type 0} {Q : B → Type 0} → Keeps p P → Keeps q Q → Keeps (p ⨾ q) (BothOf P Q)
keeps-then h k = record { by = λ x t m. (h.by m.front t.0 m.first, k.by m.back t.1 m.second) }

pub keeps-either : {A : Type 0} {p q : Rel A} {P : A → Type 0} → Keeps p P → Keeps q P → Keeps (p ∪ q) P
keeps-either {A} {p} {q} {P} h k = record { by = by }
  where
    by : (x : List Token) (t : A) → (p ∪ q) x t → P t
    by x t (inl m) = h.by x t m
    by x t (inr m) = k.by x t m

pub keeps-opt : {A : Type 0} {p : Rel A} {P : A → Type 0} → Keeps p P → Keeps (opt p) (OfOption P)
keeps-opt {A} {p} {P} h = record { by = by }
  where
    by : (x : List Token) (t : Option A) → opt p x t → OfOption P t
    by x None m = tt
    by x (Some a) m = h.by x a m

pub keeps-star : {A : Type 0} {p : Rel A} {P : A → Type 0} → Keeps p P → Keeps (star p) (AllByRecursion P)
keeps-star {A} {p} {P} h = record { by = by }
  where
    by : (x : List Token) (ts : List A) → star p x ts → AllByRecursion P ts
    by x [] m = tt
    by x (t ∷ ts) m = (h.by m.front t m.first, by m.back ts m.second)

pub keeps-plus : {A : Type 0} {p : Rel A} {P : A → Type 0} → Keeps p P → Keeps (plus p) (AllByRecursion P)
keeps-plus {A} {p} {P} h = keeps-mapped {P = BothOf P (AllByRecursion P)} (λ x k. (k.0, k.1)) (keeps-then h (keeps-star h))

-- ---- with tokens around

pub keeps-after : {A : Type 0} (mark : Test) {p : Rel A} {P : A → Type 0} → Keeps p P → Keeps (after mark p) P
keeps-after mark {P = P} h = keeps-mapped {P = BothOf Anything P} (λ x k. k.1) (keeps-then (keeps-any {p = one mark}) h)

pub keeps-between : {A : Type 0} (opening closing : Test) {p : Rel A} {P : A → Type 0} → Keeps p P → Keeps (between opening p closing) P
keeps-between opening closing {P = P} h = keeps-mapped {P = BothOf Anything (BothOf P Anything)} (λ x k. k.1.0) (keeps-then (keeps-any {p = one opening}) (keeps-then h (keeps-any {p = one closing})))

pub keeps-whole : {A : Type 0} {p : Limits → Rel A} {P : A → Type 0} → ((c : Limits) → Keeps (p c) P) → (c : Limits) → Keeps (whole p c) P
keeps-whole {P = P} h c = keeps-mapped {P = BothOf P Anything} (λ x k. k.0) (keeps-then (h c) (keeps-any {p = one the_end}))
