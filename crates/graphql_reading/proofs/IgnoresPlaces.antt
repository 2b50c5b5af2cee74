-- Places don't matter, nor how a block string is written: of tokens that are alike there is a tree too, the same but for places.
use Rattle.std.proofs.Common.{◌≡◌, ℕ, false, IsTrue, map, option_map, Option, Some, None, List, [], ◌∷◌, ◌++◌, inl, inr, refl, sym, ap, ap₂, ◌∙◌, subst}
use Rattle.graphql_tokens.specs.declared.lexer.TokenKind.TheVariants.{Block}
use Rattle.graphql_tokens.specs.tokens.Alike.{IsAlike, AreAlike}
use Rattle.graphql_tokens.specs.tokens.Token.{Bare, Token}
use Rattle.graphql_reading.specs.grammar.Tests.{Test}
use Rattle.graphql_reading.specs.grammar.Limits.{Limits}
use Rattle.graphql_reading.specs.grammar.Relations.{Rel, one, ◌⨾◌, ◌∪◌, mapped, never, opt, star, plus, cons, given}
use Rattle.graphql_reading.specs.grammar.Fronts.{bares, without_place, without_places}

-- a tree of y, the same as a but for places
pub record Same {A : Type 0} (p : Rel A) (placeless : A → A) (y : List Token) (a : A) : Type 0 where
  pub tree : A
  pub holds : p y tree
  pub same : placeless tree ≡ placeless a

pub record IgnoresPlaces {A : Type 0} (p : Limits → Rel A) (placeless : A → A) : Type 0 where
  pub by : (c : Limits) (x y : List Token) (a : A) → p c x a → AreAlike (bares x) (bares y) → Same (p c) placeless y a
  pub fixed : (c : Limits) (x : List Token) (a : A) → p c x a → without_places x ≡ x → placeless a ≡ a

-- ---- lists

pub tail-is : {A : Type 0} (t s : A) (u y : List A) → t ∷ u ≡ s ∷ y → u ≡ y
tail-is t s u y e = cc

pub head-is : {A : Type 0} (t s : A) (u y : List A) → t ∷ u ≡ s ∷ y → t ≡ s
head-is t s u y e = cc

pub no-bares : (y : List Token) → AreAlike [] (bares y) → y ≡ []
no-bares [] e = refl
no-bares (t ∷ y) e = absurd e

-- equal lists are alike
pub alike-same : (xs ys : List Bare) → xs ≡ ys → AreAlike xs ys
alike-same [] [] e = tt
alike-same [] (y ∷ ys) e = absurd cc
alike-same (x ∷ xs) [] e = absurd cc
alike-same (x ∷ xs) (y ∷ ys) e = (inl (head-is x y xs ys e), alike-same xs ys (tail-is x y xs ys e))

pub alike-append : (xs ys us vs : List Bare) → AreAlike xs ys → AreAlike us vs → AreAlike (xs ++ us) (ys ++ vs)
alike-append [] [] us vs h k = k
alike-append [] (y ∷ ys) us vs h k = absurd h
alike-append (x ∷ xs) [] us vs h k = absurd h
alike-append (x ∷ xs) (y ∷ ys) us vs h k = (h.0, alike-append xs ys us vs h.1 k)

pub record Splits (u v y : List Token) : Type 0 where
  pub front : List Token
  pub back : List Token
  pub joined : y ≡ front ++ back
  pub first : AreAlike (bares u) (bares front)
  pub second : AreAlike (bares v) (bares back)

pub splits : (u v y : List Token) → AreAlike (bares (u ++ v)) (bares y) → Splits u v y
splits [] v y e = record { front = []; back = y; joined = refl; first = tt; second = e }
splits (t ∷ u) v [] e = absurd e
splits (t ∷ u) v (s ∷ y) e =
    let m = splits u v y e.1 in
    record { front = s ∷ m.front; back = m.back; joined = ap (λ (l : List Token). s ∷ l) m.joined; first = (e.0, m.first); second = m.second }

-- tokens with the phrase's parts, alike
splits-at : (x u v y : List Token) → x ≡ u ++ v → AreAlike (bares x) (bares y) → Splits u v y
splits-at x u v y e h = splits u v y (subst (λ (l : List Token). AreAlike (bares l) (bares y)) e h)

-- a list has no places where its parts have none
fixed-parts : (u v : List Token) → without_places (u ++ v) ≡ u ++ v → (without_places u ≡ u) × (without_places v ≡ v)
fixed-parts [] v e = (refl, e)
fixed-parts (t ∷ u) v e =
    let m = fixed-parts u v (tail-is (without_place t) t (without_places (u ++ v)) (u ++ v) e) in
    (ap₂ (λ (t : Token) (l : List Token). t ∷ l) (head-is (without_place t) t (without_places (u ++ v)) (u ++ v) e) m.0, m.1)

fixed-at : (x u v : List Token) → x ≡ u ++ v → without_places x ≡ x → (without_places u ≡ u) × (without_places v ≡ v)
fixed-at x u v e h = fixed-parts u v (subst (λ (l : List Token). without_places l ≡ l) e h)

-- ---- the combinators

-- no block string passes
abbrev pub PassesNoBlock : Test → Type 0
PassesNoBlock test = (spelling : List ℕ) → test (record { kind = Block; spelling = spelling }) ≡ false

-- what is like a token that passes is that token
pub alike-one : (test : Test) → PassesNoBlock test → (a b : Bare) → IsTrue (test a) → IsAlike a b → a ≡ b
alike-one test none a b h (inl e) = e
alike-one test none a b h (inr m) = absurd (never (ap test (λ i. record { kind = m.block i; spelling = a.spelling }) ∙ none a.spelling) h)
  where
    never : test a ≡ false → IsTrue (test a) → ⊥
    never e h = cc

pub ignores-one : (test : Test) → PassesNoBlock test → IgnoresPlaces (λ c. one test) without_place
ignores-one test none = record { by = by; fixed = λ c x a m e. head-is (without_place a) a [] [] (subst (λ (l : List Token). without_places l ≡ l) m.0 e) }
  where
    by : (c : Limits) (x y : List Token) (a : Token) → one test x a → AreAlike (bares x) (bares y) → Same (one test) without_place y a
    by c x y a m e = go y (subst (λ (l : List Token). AreAlike (bares l) (bares y)) m.0 e)
      where
        go : (y : List Token) → AreAlike (a.bare ∷ []) (bares y) → Same (one test) without_place y a
        go [] e = absurd e
        go (s ∷ y) e =
            let same : a.bare ≡ s.bare = alike-one test none a.bare s.bare m.1 e.0 in
            record { tree = s; holds = (ap (λ (l : List Token). s ∷ l) (no-bares y e.1), subst (λ (t : Bare). IsTrue (test t)) same m.1); same = ap (λ (t : Bare). without_place (record a { bare = t })) (sym same) }

pub ignores-never : {A : Type 0} {f : A → A} → IgnoresPlaces (λ c. never {A = A}) f
ignores-never = record { by = λ c x y a m e. absurd m; fixed = λ c x a m e. absurd m }

pub ignores-then : {A B : Type 0} {p : Limits → Rel A} {q : Limits → Rel B} {f : A → A} {g : B → B} → IgnoresPlaces p f → IgnoresPlaces q g → IgnoresPlaces (λ c. p c ⨾ q c) (λ x. (f x.0, g x.1))
ignores-then h k = record {
  by = λ c x y a m e.
      let s = splits-at x m.front m.back y m.joined e in
      let i = h.by c m.front s.front a.0 m.first s.first in
      let j = k.by c m.back s.back a.1 m.second s.second in
      record { tree = (i.tree, j.tree); holds = record { front = s.front; back = s.back; joined = s.joined; first = i.holds; second = j.holds }; same = λ n. (i.same n, j.same n) };
  fixed = λ c x a m e.
      let s = fixed-at x m.front m.back m.joined e in
      λ n. (h.fixed c m.front a.0 m.first s.0 n, k.fixed c m.back a.1 m.second s.1 n);
}

-- what is made of a tree has its places from that tree
pub ignores-mapped : {A B : Type 0} {p : Limits → Rel A} {f : A → A} {g : B → B} {k : A → B} → ((a : A) → g (k a) ≡ k (f a)) → IgnoresPlaces p f → IgnoresPlaces (λ c. mapped k (p c)) g
ignores-mapped {f = f} {g = g} {k = k} e h = record {
  by = λ c x y b m same.
      let i = h.by c x y m.value m.holds same in
      record { tree = k i.tree; holds = record { value = i.tree; holds = i.holds; is = refl }; same = e i.tree ∙ ap k i.same ∙ sym (e m.value) ∙ ap g (sym m.is) };
  fixed = λ c x b m is. ap g m.is ∙ e m.value ∙ ap k (h.fixed c x m.value m.holds is) ∙ sym m.is;
}

pub ignores-either : {A : Type 0} {p q : Limits → Rel A} {f : A → A} → IgnoresPlaces p f → IgnoresPlaces q f → IgnoresPlaces (λ c. p c ∪ q c) f
ignores-either {A} {p} {q} {f} h k = record { by = by; fixed = fixed }
  where
    by : (c : Limits) (x y : List Token) (a : A) → (p c ∪ q c) x a → AreAlike (bares x) (bares y) → Same (p c ∪ q c) f y a
    by c x y a (inl m) e = let i = h.by c x y a m e in record { tree = i.tree; holds = inl i.holds; same = i.same }
    by c x y a (inr m) e = let i = k.by c x y a m e in record { tree = i.tree; holds = inr i.holds; same = i.same }

    fixed : (c : Limits) (x : List Token) (a : A) → (p c ∪ q c) x a → without_places x ≡ x → f a ≡ a
    fixed c x a (inl m) e = h.fixed c x a m e
    fixed c x a (inr m) e = k.fixed c x a m e

pub ignores-star : {A : Type 0} {p : Limits → Rel A} {f : A → A} → IgnoresPlaces p f → IgnoresPlaces (λ c. star (p c)) (map f)
ignores-star {A} {p} {f} h = record { by = by; fixed = fixed }
  where
    by : (c : Limits) (x y : List Token) (a : List A) → star (p c) x a → AreAlike (bares x) (bares y) → Same (star (p c)) (map f) y a
    by c x y [] m e = record { tree = []; holds = no-bares y (subst (λ (l : List Token). AreAlike (bares l) (bares y)) m e); same = refl }
    by c x y (a ∷ more) m e =
        let s = splits-at x m.front m.back y m.joined e in
        let i = h.by c m.front s.front a m.first s.first in
        let j = by c m.back s.back more m.second s.second in
        record { tree = i.tree ∷ j.tree; holds = record { front = s.front; back = s.back; joined = s.joined; first = i.holds; second = j.holds }; same = ap₂ (λ (a : A) (l : List A). a ∷ l) i.same j.same }

    fixed : (c : Limits) (x : List Token) (a : List A) → star (p c) x a → without_places x ≡ x → map f a ≡ a
    fixed c x [] m e = refl
    fixed c x (a ∷ more) m e =
        let s = fixed-at x m.front m.back m.joined e in
        ap₂ (λ (a : A) (l : List A). a ∷ l) (h.fixed c m.front a m.first s.0) (fixed c m.back more m.second s.1)

pub ignores-plus : {A : Type 0} {p : Limits → Rel A} {f : A → A} → IgnoresPlaces p f → IgnoresPlaces (λ c. plus (p c)) (map f)
ignores-plus {p = p} {f = f} h = ignores-mapped {g = map f} {k = cons} (λ a. refl) (ignores-then h (ignores-star h))

pub ignores-opt : {A : Type 0} {p : Limits → Rel A} {f : A → A} → IgnoresPlaces p f → IgnoresPlaces (λ c. opt (p c)) (option_map f)
ignores-opt {A} {p} {f} h = record { by = by; fixed = fixed }
  where
    by : (c : Limits) (x y : List Token) (a : Option A) → opt (p c) x a → AreAlike (bares x) (bares y) → Same (opt (p c)) (option_map f) y a
    by c x y None m e = record { tree = None; holds = no-bares y (subst (λ (l : List Token). AreAlike (bares l) (bares y)) m e); same = refl }
    by c x y (Some a) m e = let i = h.by c x y a m e in record { tree = Some i.tree; holds = i.holds; same = ap Some i.same }

    fixed : (c : Limits) (x : List Token) (a : Option A) → opt (p c) x a → without_places x ≡ x → option_map f a ≡ a
    fixed c x None m e = refl
    fixed c x (Some a) m e = ap Some (h.fixed c x a m e)

-- a list that isn't there has no places
pub map-given : {A : Type 0} (f : A → A) (list : Option (List A)) → map f (given list) ≡ given (option_map (map f) list)
map-given f None = refl
map-given f (Some list) = refl
