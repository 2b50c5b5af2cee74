-- What is shown of a tree, where it is the tree again with a change, but for places.
use Rattle.std.proofs.Common.{◌≡◌, Option, Some, None, option_map, List, [], ◌∷◌, ◌++◌, map, inl, inr, refl, sym, ap, subst}
use Rattle.std.specs.List.{flat_map}
use Rattle.graphql_tokens.specs.tokens.Token.{Bare, Token}
use Rattle.graphql_reading.specs.grammar.Limits.{Limits}
use Rattle.graphql_reading.specs.grammar.Relations.{Rel, ◌⨾◌, ◌∪◌, mapped, opt, star, plus, cons}
use Rattle.graphql_printer.specs.inner.Shown.{shown_part}
use Rattle.graphql_printer.proofs.Reprints.{IsSpelled, AreSpelled, each_split, Again, Reprints, again-within, again-then, again-mapped}

-- the changed tree is one of what is shown of the tree, but for places
pub record Changes {A : Type 0} (p : Limits → Rel A) (placeless change : A → A) (shown : A → List Bare) : Type 0 where
  pub by : (c : Limits) (x : List Token) (a : A) → p c x a → AreSpelled x → Again (p c) placeless (shown a) (change a)

parts_spelled : (ts front back : List Token) → ts ≡ front ++ back → AreSpelled ts → AreSpelled front × AreSpelled back
parts_spelled ts front back e h = each_split IsSpelled front back (subst AreSpelled e h)

-- what is shown, told otherwise
told : {A : Type 0} (p : Rel A) (f : A → A) {bs cs : List Bare} (a : A) → bs ≡ cs → Again p f bs a → Again p f cs a
told p f a e h = subst (λ (l : List Bare). Again p f l a) e h

abbrev pub same : {A : Type 0} → A → A
same a = a

pub changes-none : {A : Type 0} {p : Limits → Rel A} {f : A → A} {shown : A → List Bare} → Reprints p f shown → Changes p f same shown
changes-none h = record { by = λ c x a m s. h.by c x a m s }

pub changes-then : {A B : Type 0} {p : Limits → Rel A} {q : Limits → Rel B} {f change : A → A} {g change' : B → B} {shown : A → List Bare} {shown' : B → List Bare} → Changes p f change shown → Changes q g change' shown'
    → Changes (λ c. p c ⨾ q c) (λ x. (f x.0, g x.1)) (λ x. (change x.0, change' x.1)) (λ x. shown x.0 ++ shown' x.1)
changes-then h k = record {
  by = λ c x a m s.
      let spelled = parts_spelled x m.front m.back m.joined s in
      again-then (h.by c m.front a.0 m.first spelled.0) (k.by c m.back a.1 m.second spelled.1);
}

-- what is shown may be told otherwise, where it is known to be the same of each phrase
pub changes-shown : {A : Type 0} {p : Limits → Rel A} {f change : A → A} {shown : A → List Bare} (other : A → List Bare) → ((c : Limits) (x : List Token) (a : A) → p c x a → shown a ≡ other a) → Changes p f change shown → Changes p f change other
changes-shown {p = p} {f = f} {change = change} other e h = record { by = λ c x a m s. told (p c) f (change a) (e c x a m) (h.by c x a m s) }

pub changes-mapped : {A B : Type 0} {p : Limits → Rel A} {f change : A → A} {g : B → B} {k : A → B} {shown : A → List Bare} (other : B → B) (whole : B → List Bare)
    → ((a : A) → g (k a) ≡ k (f a)) → ((a : A) → k (change a) ≡ other (k a)) → ((a : A) → shown a ≡ whole (k a)) → Changes p f change shown → Changes (λ c. mapped k (p c)) g other whole
changes-mapped {B = B} {p = p} {g = g} {k = k} {shown = shown} other whole e is as_whole h = record {
  by = λ c x b m s.
      let here = subst (λ (y : B). Again (mapped k (p c)) g (shown m.value) y) (is m.value) (again-mapped e (h.by c x m.value m.holds s)) in
      subst (λ (y : B). Again (mapped k (p c)) g (whole y) (other y)) (sym m.is) (told (mapped k (p c)) g (other (k m.value)) (as_whole m.value) here);
}

pub changes-either : {A : Type 0} {p q : Limits → Rel A} {f change : A → A} {shown : A → List Bare} → Changes p f change shown → Changes q f change shown → Changes (λ c. p c ∪ q c) f change shown
changes-either {A} {p} {q} {f} {change} {shown} h k = record { by = by }
  where
    by : (c : Limits) (x : List Token) (a : A) → (p c ∪ q c) x a → AreSpelled x → Again (p c ∪ q c) f (shown a) (change a)
    by c x a (inl m) s = again-within (λ x b m. inl m) (h.by c x a m s)
    by c x a (inr m) s = again-within (λ x b m. inr m) (k.by c x a m s)

pub changes-opt : {A : Type 0} {p : Limits → Rel A} {f change : A → A} {shown : A → List Bare} → Changes p f change shown → Changes (λ c. opt (p c)) (option_map f) (option_map change) (shown_part shown)
changes-opt {A} {p} {f} {change} {shown} h = record { by = by }
  where
    by : (c : Limits) (x : List Token) (a : Option A) → opt (p c) x a → AreSpelled x → Again (opt (p c)) (option_map f) (shown_part shown a) (option_map change a)
    by c x None m s = record { tokens = []; are = refl; spelled = tt; tree = None; holds = refl; same = refl }
    by c x (Some a) m s =
        let i = h.by c x a m s in
        record { tokens = i.tokens; are = i.are; spelled = i.spelled; tree = Some i.tree; holds = i.holds; same = ap Some i.same }

pub changes-star : {A : Type 0} {p : Limits → Rel A} {f change : A → A} {shown : A → List Bare} → Changes p f change shown → Changes (λ c. star (p c)) (map f) (map change) (flat_map shown)
changes-star {A} {p} {f} {change} {shown} h = record { by = by }
  where
    by : (c : Limits) (x : List Token) (items : List A) → star (p c) x items → AreSpelled x → Again (star (p c)) (map f) (flat_map shown items) (map change items)
    by c x [] m s = record { tokens = []; are = refl; spelled = tt; tree = []; holds = refl; same = refl }
    by c x (a ∷ items) m s =
        let spelled = parts_spelled x m.front m.back m.joined s in
        let i = again-then (h.by c m.front a m.first spelled.0) (by c m.back items m.second spelled.1) in
        record { tokens = i.tokens; are = i.are; spelled = i.spelled; tree = i.tree.0 ∷ i.tree.1; holds = record { front = i.holds.front; back = i.holds.back; joined = i.holds.joined; first = i.holds.first; second = i.holds.second }; same = ap cons i.same }

pub changes-plus : {A : Type 0} {p : Limits → Rel A} {f change : A → A} {shown : A → List Bare} → Changes p f change shown → Changes (λ c. plus (p c)) (map f) (map change) (flat_map shown)
changes-plus {A} {p} {f} {change} {shown} h = record { by = by }
  where
    by : (c : Limits) (x : List Token) (items : List A) → plus (p c) x items → AreSpelled x → Again (plus (p c)) (map f) (flat_map shown items) (map change items)
    by c x items m s =
        let spelled = parts_spelled x m.holds.front m.holds.back m.holds.joined s in
        let i = again-then (h.by c m.holds.front m.value.0 m.holds.first spelled.0) ((changes-star h).by c m.holds.back m.value.1 m.holds.second spelled.1) in
        subst (λ (l : List A). Again (plus (p c)) (map f) (flat_map shown l) (map change l)) (sym m.is) (again-mapped {k = cons} (λ a. refl) i)
