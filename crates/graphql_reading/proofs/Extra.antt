-- Optional parts, parts that look ahead, and productions that have to be factored.
use Rattle.std.proofs.Common.{◌≡◌, ℕ, zero, suc, ◌⊎◌, ◌↔◌, inl, inr, Option, Some, None, List, [], ◌∷◌, ◌++◌, refl, sym, ap, ◌∙◌, subst, append_assoc}
use Rattle.graphql_tokens.specs.tokens.Token.{Token}
use Rattle.graphql_reading.specs.grammar.Tests.{Test}
use Rattle.graphql_reading.specs.grammar.Limits.{Limits}
use Rattle.graphql_reading.specs.grammar.Relations.{Rel, ◌⨾◌, ◌∪◌, mapped, star, plus, opt}
use Rattle.graphql_reading.specs.reading.Outcome.{Reader, then_at, mapped_at, none_at, many_at, plus_at, opt_at}
use Rattle.graphql_reading.proofs.Parts.{none, nested, below, of_selections}
use Rattle.graphql_reading.proofs.Theory.{Starts, IsSubset, outside, within-begins, then-exact, none-exact, star-starts, leads-starts, choose-exact, Begins, many-exact, plus-exact}
use Rattle.graphql_reading.proofs.ReadsExactly.{ReadsExactly, HasPhrase, BeginsWith, exact-mapped, exact-same, begins-mapped}

abbrev nothing : {A : Type 0} → Option A
nothing = None

-- what a phrase that is followed by f begins with lies within g
pub record FirstWithin {A : Type 0} (q : Limits → Rel A) (f g : Test) : Type 0 where
  pub by : Starts q f g

-- a part, and any other
pub exact-seq : {A B : Type 0} {p : Limits → Rel A} {q : Limits → Rel B} {b : Limits} {f g : Test} {r : Reader A} {s : Reader B} → FirstWithin q f g → HasPhrase q → ReadsExactly p b g r → ReadsExactly q b f s → ReadsExactly (λ c. p c ⨾ q c) b f (then_at r s)
exact-seq {p = p} {q = q} {b = b} {f = f} {g = g} {r = r} {s = s} first has h k = record { at = λ ts. then-exact p q b f g r s ts first.by has.some (h.at ts) (λ a rest _. k.at rest) }

pub first-begins : {A : Type 0} {p : Limits → Rel A} {f first g : Test} → BeginsWith p first → IsSubset first g → FirstWithin p f g
first-begins {p = p} {first = first} {g = g} leads h = record { by = λ c x y a m begins. within-begins first g h (x ++ y) (leads.by c x y a m) }

pub first-star : {A : Type 0} {p : Limits → Rel A} {f first g : Test} → BeginsWith p first → IsSubset first g → IsSubset f g → FirstWithin (λ c. star (p c)) f g
first-star {p = p} {f = f} {first = first} {g = g} leads h k = record { by = star-starts p f first g leads.by h k }

pub first-opt : {A : Type 0} {p : Limits → Rel A} {f first g : Test} → BeginsWith p first → IsSubset first g → IsSubset f g → FirstWithin (λ c. opt (p c)) f g
first-opt {A} {p} {f} {first} {g} leads h k = record { by = by }
  where
    by : Starts (λ c. opt (p c)) f g
    by c x y None e begins = within-begins f g k (x ++ y) (subst (λ (l : List Token). Begins f (l ++ y)) (sym e) begins)
    by c x y (Some a) e begins = within-begins first g h (x ++ y) (leads.by c x y a e)

pub first-then : {A B : Type 0} {p : Limits → Rel A} {q : Limits → Rel B} {f g h : Test} → FirstWithin p g h → FirstWithin q f g → FirstWithin (λ c. p c ⨾ q c) f h
first-then {p = p} {q = q} {f = f} {g = g} {h = h} o n = record { by = λ c x y a m begins. subst (λ (l : List Token). Begins h l) (sym (append_assoc m.front m.back y) ∙ ap (λ (l : List Token). l ++ y) (sym m.joined)) (o.by c m.front (m.back ++ y) a.0 m.first (n.by c m.back y a.1 m.second begins)) }

pub first-mapped : {A B : Type 0} {k : A → B} {p : Limits → Rel A} {f g : Test} → FirstWithin p f g → FirstWithin (λ c. mapped k (p c)) f g
first-mapped o = record { by = λ c x y t m begins. o.by c x y m.value m.holds begins }

-- any number of parts that look ahead
pub exact-many-ahead : {A : Type 0} {p : Limits → Rel A} {b : Limits} {f first g : Test} {r : Reader A} → BeginsWith p first → IsSubset first g → IsSubset f g → IsSubset f (outside first) → ReadsExactly p b g r → ReadsExactly (λ c. star (p c)) b f (many_at first r)
exact-many-ahead {p = p} {b = b} {f = f} {first = first} {g = g} {r = r} leads h k away exact = record { at = many-exact p b f first g r leads.by h k away exact.at }

pub exact-plus-ahead : {A : Type 0} {p : Limits → Rel A} {b : Limits} {f first g : Test} {r : Reader A} → BeginsWith p first → IsSubset first g → IsSubset f g → IsSubset f (outside first) → ReadsExactly p b g r → ReadsExactly (λ c. plus (p c)) b f (plus_at first r)
exact-plus-ahead {p = p} {b = b} {f = f} {first = first} {g = g} {r = r} leads h k away exact = record { at = plus-exact p b f first g r leads.by h k away exact.at }

-- ---- optional parts

pub has-opt : {A : Type 0} {p : Limits → Rel A} → HasPhrase (λ c. opt (p c))
has-opt {p = p} = record { some = λ c. record { tail = []; tree = None; holds = refl; proper = tt } }

is-opt : {A : Type 0} (p : Rel A) (x : List Token) (t : Option A) → (mapped Some p ∪ none None) x t ↔ opt p x t
is-opt {A} p x t = (to t, from t)
  where
    to : (t : Option A) → (mapped Some p ∪ none None) x t → opt p x t
    to t (inl m) = subst (λ (o : Option A). opt p x o) (sym m.is) m.holds
    to t (inr m) = subst (λ (o : Option A). opt p x o) (sym m.1) m.0

    from : (t : Option A) → opt p x t → (mapped Some p ∪ none None) x t
    from None e = inr (e, refl)
    from (Some a) e = inl (record { value = a; holds = e; is = refl })

pub exact-opt : {A : Type 0} {p : Limits → Rel A} {b : Limits} {f first : Test} {r : Reader A} → BeginsWith p first → IsSubset f (outside first) → ReadsExactly p b f r → ReadsExactly (λ c. opt (p c)) b f (opt_at first r)
unfolding opt_at
exact-opt {A} {p} {b} {f} {first} {r} leads away h = exact-same {p = λ c. mapped Some (p c) ∪ none None} (λ c. is-opt (p c)) (record { at = λ ts. choose-exact (λ c. mapped Some (p c)) (λ c. none None) b f first (mapped_at Some r) (none_at None) ts (leads-starts _ f first (begins-mapped {f = Some} leads).by) starts ((exact-mapped {g = Some} h).at ts) (none-exact None b f ts) })
  where
    starts : Starts (λ c. none (nothing {A = A})) f (outside first)
    starts c x y t m begins = within-begins f (outside first) away (x ++ y) (subst (λ (l : List Token). Begins f (l ++ y)) (sym m.0) begins)

-- an optional part and another
pub begins-opt : {A B : Type 0} {p : Limits → Rel A} {q : Limits → Rel B} {g : Test} → BeginsWith p g → BeginsWith q g → BeginsWith (λ c. opt (p c) ⨾ q c) g
begins-opt {A} {B} {p} {q} {g} h k = record { by = λ c x y a m. subst (λ (l : List Token). Begins g l) (sym (append_assoc m.front m.back y) ∙ ap (λ (l : List Token). l ++ y) (sym m.joined)) (go c m.front (m.back ++ y) a.0 m.first (k.by c m.back y a.1 m.second)) }
  where
    go : (c : Limits) (x y : List Token) (o : Option A) → opt (p c) x o → Begins g y → Begins g (x ++ y)
    go c x y None e begins = subst (λ (l : List Token). Begins g (l ++ y)) (sym e) begins
    go c x y (Some a) e begins = h.by c x y a e

-- any number of parts and another
pub begins-star : {A B : Type 0} {p : Limits → Rel A} {q : Limits → Rel B} {g : Test} → BeginsWith p g → BeginsWith q g → BeginsWith (λ c. star (p c) ⨾ q c) g
begins-star {A} {B} {p} {q} {g} h k = record { by = λ c x y a m. subst (λ (l : List Token). Begins g l) (sym (append_assoc m.front m.back y) ∙ ap (λ (l : List Token). l ++ y) (sym m.joined)) (go c m.front (m.back ++ y) a.0 m.first (k.by c m.back y a.1 m.second)) }
  where
    go : (c : Limits) (x y : List Token) (l : List A) → star (p c) x l → Begins g y → Begins g (x ++ y)
    go c x y [] e begins = subst (λ (l : List Token). Begins g (l ++ y)) (sym e) begins
    go c x y (a ∷ more) e begins = subst (λ (l : List Token). Begins g l) (sym (append_assoc e.front e.back y) ∙ ap (λ (l : List Token). l ++ y) (sym e.joined)) (h.by c e.front (e.back ++ y) a e.first)

-- ---- laws

pub either-way : {A : Type 0} (p q : Rel A) (x : List Token) (t : A) → (p ∪ q) x t ↔ (q ∪ p) x t
either-way p q x t = (turn-round, turn-round)
  where
    turn-round : {P Q : Type 0} → P ⊎ Q → Q ⊎ P
    turn-round (inl h) = inr h
    turn-round (inr h) = inl h

-- two productions that begin with the same part
pub factored : {A B C X D : Type 0} (p : Rel A) (q : Rel B) (r : Rel C) (i : B → X) (j : C → X) (f : A × B → D) (g : A × C → D) (h : A × X → D) → ((a : A) (b : B) → h (a, i b) ≡ f (a, b)) → ((a : A) (c : C) → h (a, j c) ≡ g (a, c)) → (x : List Token) (t : D) → mapped h (p ⨾ (mapped i q ∪ mapped j r)) x t ↔ (mapped f (p ⨾ q) ∪ mapped g (p ⨾ r)) x t
factored {A} {B} {C} {X} {D} p q r i j f g h first second x t = (to, from)
  where
    to : mapped h (p ⨾ (mapped i q ∪ mapped j r)) x t → (mapped f (p ⨾ q) ∪ mapped g (p ⨾ r)) x t
    to m = elim m.holds.second [
      | inl k ↦ inl (record { value = (m.value.0, k.value); holds = record { front = m.holds.front; back = m.holds.back; joined = m.holds.joined; first = m.holds.first; second = k.holds }; is = m.is ∙ ap (λ (y : X). h (m.value.0, y)) k.is ∙ first m.value.0 k.value })
      | inr k ↦ inr (record { value = (m.value.0, k.value); holds = record { front = m.holds.front; back = m.holds.back; joined = m.holds.joined; first = m.holds.first; second = k.holds }; is = m.is ∙ ap (λ (y : X). h (m.value.0, y)) k.is ∙ second m.value.0 k.value })
    ]

    from : (mapped f (p ⨾ q) ∪ mapped g (p ⨾ r)) x t → mapped h (p ⨾ (mapped i q ∪ mapped j r)) x t
    from (inl m) = record { value = (m.value.0, i m.value.1); holds = record { front = m.holds.front; back = m.holds.back; joined = m.holds.joined; first = m.holds.first; second = inl (record { value = m.value.1; holds = m.holds.second; is = refl }) }; is = m.is ∙ sym (first m.value.0 m.value.1) }
    from (inr m) = record { value = (m.value.0, j m.value.1); holds = record { front = m.holds.front; back = m.holds.back; joined = m.holds.joined; first = m.holds.first; second = inr (record { value = m.value.1; holds = m.holds.second; is = refl }) }; is = m.is ∙ sym (second m.value.0 m.value.1) }

-- the same, where the part has its own budgets
pub sets-after : {A B : Type 0} (p : ℕ → Rel A) (q : Limits → Rel B) (c : Limits) (x : List Token) (t : A × B) → nested of_selections (λ c. p c.values ⨾ q c) c x t ↔ (p c.values ⨾ nested of_selections q c) x t
sets-after {A} {B} p q c x t = (to c.selections, from c.selections)
  where
    to : (n : ℕ) → below of_selections (λ c. p c.values ⨾ q c) c n x t → (p c.values ⨾ below of_selections q c n) x t
    to zero h = absurd h
    to (suc n) h = record { front = h.front; back = h.back; joined = h.joined; first = h.first; second = h.second }

    from : (n : ℕ) → (p c.values ⨾ below of_selections q c n) x t → below of_selections (λ c. p c.values ⨾ q c) c n x t
    from zero h = absurd h.second
    from (suc n) h = record { front = h.front; back = h.back; joined = h.joined; first = h.first; second = h.second }

pub then-same : {A B : Type 0} (p : Rel A) (q r : Rel B) → ((x : List Token) (t : B) → q x t ↔ r x t) → (x : List Token) (t : A × B) → (p ⨾ q) x t ↔ (p ⨾ r) x t
then-same p q r e x t = (λ h. record { front = h.front; back = h.back; joined = h.joined; first = h.first; second = (e h.back t.1).0 h.second }, λ h. record { front = h.front; back = h.back; joined = h.joined; first = h.first; second = (e h.back t.1).1 h.second })

pub both-ways : {P Q R : Type 0} → P ↔ Q → Q ↔ R → P ↔ R
both-ways h k = (λ p. k.0 (h.0 p), λ r. h.1 (k.1 r))

-- a production after a part, taken in among others
pub taken-in : {A B X Y D : Type 0} (p : Rel A) (q : Rel B) (i : B → X) (h : A × X → D) (g : A × B → Y) (k : Y → D) → ((a : A) (b : B) → h (a, i b) ≡ k (g (a, b))) → (x : List Token) (t : D) → mapped h (p ⨾ mapped i q) x t ↔ mapped k (mapped g (p ⨾ q)) x t
taken-in {A} {B} {X} {Y} {D} p q i h g k e x t = (to, from)
  where
    to : mapped h (p ⨾ mapped i q) x t → mapped k (mapped g (p ⨾ q)) x t
    to m = record {
      value = g (m.value.0, m.holds.second.value);
      holds = record { value = (m.value.0, m.holds.second.value); holds = record { front = m.holds.front; back = m.holds.back; joined = m.holds.joined; first = m.holds.first; second = m.holds.second.holds }; is = refl };
      is = m.is ∙ ap (λ (y : X). h (m.value.0, y)) m.holds.second.is ∙ e m.value.0 m.holds.second.value;
    }

    from : mapped k (mapped g (p ⨾ q)) x t → mapped h (p ⨾ mapped i q) x t
    from m = record {
      value = (m.holds.value.0, i m.holds.value.1);
      holds = record { front = m.holds.holds.front; back = m.holds.holds.back; joined = m.holds.holds.joined; first = m.holds.holds.first; second = record { value = m.holds.value.1; holds = m.holds.holds.second; is = refl } };
      is = m.is ∙ ap k m.holds.is ∙ sym (e m.holds.value.0 m.holds.value.1);
    }

-- one of two after a part
pub spread-out : {A X D : Type 0} (p : Rel A) (q r : Rel X) (h : A × X → D) (x : List Token) (t : D) → mapped h (p ⨾ (q ∪ r)) x t ↔ (mapped h (p ⨾ q) ∪ mapped h (p ⨾ r)) x t
spread-out {A} {X} {D} p q r h x t = (to, from)
  where
    to : mapped h (p ⨾ (q ∪ r)) x t → (mapped h (p ⨾ q) ∪ mapped h (p ⨾ r)) x t
    to m = elim m.holds.second [
      | inl k ↦ inl (record { value = m.value; holds = record { front = m.holds.front; back = m.holds.back; joined = m.holds.joined; first = m.holds.first; second = k }; is = m.is })
      | inr k ↦ inr (record { value = m.value; holds = record { front = m.holds.front; back = m.holds.back; joined = m.holds.joined; first = m.holds.first; second = k }; is = m.is })
    ]

    from : (mapped h (p ⨾ q) ∪ mapped h (p ⨾ r)) x t → mapped h (p ⨾ (q ∪ r)) x t
    from (inl m) = record { value = m.value; holds = record { front = m.holds.front; back = m.holds.back; joined = m.holds.joined; first = m.holds.first; second = inl m.holds.second }; is = m.is }
    from (inr m) = record { value = m.value; holds = record { front = m.holds.front; back = m.holds.back; joined = m.holds.joined; first = m.holds.first; second = inr m.holds.second }; is = m.is }

pub either-same : {A : Type 0} (p q r s : Rel A) (x : List Token) (t : A) → p x t ↔ q x t → r x t ↔ s x t → (p ∪ r) x t ↔ (q ∪ s) x t
either-same {A} p q r s x t h k = (to, from)
  where
    to : (p ∪ r) x t → (q ∪ s) x t
    to (inl m) = inl (h.0 m)
    to (inr m) = inr (k.0 m)

    from : (q ∪ s) x t → (p ∪ r) x t
    from (inl m) = inl (h.1 m)
    from (inr m) = inr (k.1 m)
