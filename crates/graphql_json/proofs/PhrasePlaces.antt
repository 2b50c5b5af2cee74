-- The places that the trees of phrases keep are some of those of their tokens, in the same order.
use Rattle.std.proofs.Common.{◌≡◌, ◌⊎◌, inl, inr, true, List, [], ◌∷◌, ◌++◌, map, refl, sym, ap, ◌∙◌, subst, append-nil}
use Rattle.std.specs.List.{AllByRecursion}
use Rattle.std.proofs.lemmas.List.{map-append}
use Rattle.graphql_tokens.specs.declared.pos.Pos.{Pos}
use Rattle.graphql_tokens.specs.tokens.Token.{Token}
use Rattle.graphql_parser.specs.notation.Relations.{Rel, one, ◌⨾◌, ◌∪◌, mapped, star, cons, plus}
use Rattle.graphql_parser.specs.notation.Tests.{Test}
use Rattle.graphql_json.specs.nodes.Nodes.{stands_before}
use Rattle.graphql_json.proofs.PlaceOrder.{AllAfter, Grow, places_of}

-- ---- some of the places of a list

-- the first are some of the second, in the same order
abbrev pub ArePicked : List Pos → List Pos → Type 0
ArePicked [] all = Unit {0}
ArePicked (p ∷ ps) [] = ⊥
ArePicked (p ∷ ps) (q ∷ all) = ((p ≡ q) × ArePicked ps all) ⊎ ArePicked (p ∷ ps) all

picked_further : (ps : List Pos) (q : Pos) (all : List Pos) → ArePicked ps all → ArePicked ps (q ∷ all)
picked_further [] q all h = tt
picked_further (p ∷ ps) q all h = inr h

picked_behind : (ps front all : List Pos) → ArePicked ps all → ArePicked ps (front ++ all)
picked_behind ps [] all h = h
picked_behind ps (q ∷ front) all h = picked_further ps q (front ++ all) (picked_behind ps front all h)

picked_both : (ps qs all more : List Pos) → ArePicked ps all → ArePicked qs more → ArePicked (ps ++ qs) (all ++ more)
picked_both [] qs all more h k = picked_behind qs all more k
picked_both (p ∷ ps) qs [] more h k = absurd h
picked_both (p ∷ ps) qs (q ∷ all) more (inl h) k = inl (h.0, picked_both ps qs all more h.1 k)
picked_both (p ∷ ps) qs (q ∷ all) more (inr h) k = inr (picked_both (p ∷ ps) qs all more h k)

picked_before : (ps all more : List Pos) → ArePicked ps all → ArePicked ps (all ++ more)
picked_before ps all more h = subst (λ (l : List Pos). ArePicked l (all ++ more)) (append-nil ps) (picked_both ps [] all more h tt)

after_picked : (place : Pos) (ps all : List Pos) → ArePicked ps all → AllAfter place all → AllAfter place ps
after_picked place [] all h a = tt
after_picked place (p ∷ ps) [] h a = absurd h
after_picked place (p ∷ ps) (q ∷ all) (inl h) a = (subst (λ (x : Pos). stands_before place x ≡ true) (sym h.0) a.0, after_picked place ps all h.1 a.1)
after_picked place (p ∷ ps) (q ∷ all) (inr h) a = after_picked place (p ∷ ps) all h a.1

-- where all grow, so do some of them
pub picked_grow : (ps all : List Pos) → ArePicked ps all → Grow all → Grow ps
picked_grow [] all h g = tt
picked_grow (p ∷ ps) [] h g = absurd h
picked_grow (p ∷ ps) (q ∷ all) (inl h) g = (subst (λ (x : Pos). AllAfter x ps) (sym h.0) (after_picked q ps all h.1 g.0), picked_grow ps all h.1 g.1)
picked_grow (p ∷ ps) (q ∷ all) (inr h) g = picked_grow (p ∷ ps) all h g.1

-- ---- phrases

-- of each phrase, the tree has some of the places of its tokens
abbrev pub Picks : {A : Type 0} → Rel A → (A → List Pos) → Type 0
Picks {A} p places = (used : List Token) (x : A) → p used x → ArePicked (places x) (places_of used)

pub picks_one : (test : Test) → Picks (one test) (λ t. t.pos ∷ [])
picks_one test used t h = subst (λ (l : List Token). ArePicked (t.pos ∷ []) (places_of l)) (sym h.0) (inl (refl, tt))

pub picks_mapped : {A B : Type 0} {p : Rel A} (f : A → B) (places : B → List Pos) → Picks p (λ x. places (f x)) → Picks (mapped f p) places
picks_mapped {B = B} f places h used y m = subst (λ (z : B). ArePicked (places z) (places_of used)) (sym m.is) (h used m.value m.holds)

pub picks_either : {A : Type 0} {p q : Rel A} (places : A → List Pos) → Picks p places → Picks q places → Picks (p ∪ q) places
picks_either places h k used x (inl m) = h used x m
picks_either places h k used x (inr m) = k used x m

in_two : (ps qs : List Pos) (used front back : List Token) → used ≡ front ++ back → ArePicked ps (places_of front) → ArePicked qs (places_of back) → ArePicked (ps ++ qs) (places_of used)
in_two ps qs used front back e h k =
    subst (ArePicked (ps ++ qs)) (sym (ap places_of e ∙ map-append (λ (t : Token). t.pos) front back)) (picked_both ps qs (places_of front) (places_of back) h k)

pub picks_then : {A B : Type 0} {p : Rel A} {q : Rel B} (places : A → List Pos) (others : B → List Pos) → Picks p places → Picks q others → Picks (p ⨾ q) (λ x. places x.0 ++ others x.1)
picks_then places others h k used x m = in_two (places x.0) (others x.1) used m.front m.back m.joined (h m.front x.0 m.first) (k m.back x.1 m.second)

-- only those of the first, or of the second
pub picks_first : {A B : Type 0} {p : Rel A} {q : Rel B} (places : A → List Pos) → Picks p places → Picks (p ⨾ q) (λ x. places x.0)
picks_first places h used x m = subst (λ (l : List Pos). ArePicked l (places_of used)) (append-nil (places x.0)) (in_two (places x.0) [] used m.front m.back m.joined (h m.front x.0 m.first) tt)

pub picks_second : {A B : Type 0} {p : Rel A} {q : Rel B} (places : B → List Pos) → Picks q places → Picks (p ⨾ q) (λ x. places x.1)
picks_second places k used x m = in_two [] (places x.1) used m.front m.back m.joined tt (k m.back x.1 m.second)

-- ---- phrases one after another

module _ {A : Type 0} {p : Rel A} (place : A → Pos) (h : Picks p (λ x. place x ∷ [])) where
  pub picks_star : Picks (star p) (map place)
  picks_star used [] m = tt
  picks_star used (x ∷ xs) m = in_two (place x ∷ []) (map place xs) used m.front m.back m.joined (h m.front x m.first) (picks_star m.back xs m.second)

  pub picks_plus : Picks (plus p) (map place)
  picks_plus = picks_mapped cons (map place) (picks_then (λ x. place x ∷ []) (map place) h picks_star)

-- each of the trees
abbrev pub EachPicks : {A : Type 0} → (A → List Pos) → List Pos → List A → Type 0
EachPicks places all xs = AllByRecursion (λ x. ArePicked (places x) all) xs

each_behind : {A : Type 0} (places : A → List Pos) (front all : List Pos) (xs : List A) → EachPicks places all xs → EachPicks places (front ++ all) xs
each_behind places front all [] h = tt
each_behind places front all (x ∷ xs) h = (picked_behind (places x) front all h.0, each_behind places front all xs h.1)

module _ {A : Type 0} {p : Rel A} (places : A → List Pos) (h : Picks p places) where
  each_joined : (used front back : List Token) (x : A) (xs : List A) → used ≡ front ++ back → p front x → EachPicks places (places_of back) xs → EachPicks places (places_of used) (x ∷ xs)
  each_joined used front back x xs e first others =
      subst (λ (l : List Pos). EachPicks places l (x ∷ xs)) (sym (ap places_of e ∙ map-append (λ (t : Token). t.pos) front back))
      (picked_before (places x) (places_of front) (places_of back) (h front x first), each_behind places (places_of front) (places_of back) xs others)

  each_star : (used : List Token) (xs : List A) → star p used xs → EachPicks places (places_of used) xs
  each_star used [] m = tt
  each_star used (x ∷ xs) m = each_joined used m.front m.back x xs m.joined m.first (each_star m.back xs m.second)

  pub each_plus : (used : List Token) (xs : List A) → plus p used xs → EachPicks places (places_of used) xs
  each_plus used xs m =
      subst (EachPicks places (places_of used)) (sym m.is)
      (each_joined used m.holds.front m.holds.back m.value.0 m.value.1 m.holds.joined m.holds.first (each_star m.holds.back m.value.1 m.holds.second))
