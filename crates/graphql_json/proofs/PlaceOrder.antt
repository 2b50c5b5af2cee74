-- Which of two places is smaller, and lists of places that grow.
use Rattle.std.proofs.Common.{◌≡◌, ℕ, zero, suc, ◌<◌, ◌⊎◌, inl, inr, true, false, ◌&&◌, ◌==◌, nat_lt, List, [], ◌∷◌, ◌++◌, length, map, slice_index_or, ◌∙◌, arith}
use Rattle.std.specs.List.{AllByRecursion}
use Rattle.std.proofs.lemmas.Bool.{or_cases, or_left, or_right, or_from, and_parts, and_from, and_left, and_right, eqb-true, ltb-true, lt-ltb, eq-eqb, le-ltb, ne_eqb}
use Rattle.graphql_parser.specs.tokens.Token.{Token}
use Rattle.graphql_parser.specs.types.Pos.{Pos}
use Rattle.graphql_json.specs.nodes.Nodes.{stands_before}
use Rattle.graphql_json.specs.nodes.SourceOrder.{AreGrowing}

-- on an earlier line, or further left on the same
abbrev pub Before : Pos → Pos → Type 0
Before a b = (a.line < b.line) ⊎ (a.line ≡ b.line) × (a.column < b.column)

pub before : (a b : Pos) → stands_before a b ≡ true → Before a b
before a b e = by (or_cases (nat_lt a.line b.line) _ e)
  where
    by : (nat_lt a.line b.line ≡ true) ⊎ (((a.line == b.line) && nat_lt a.column b.column) ≡ true) → Before a b
    by (inl l) = inl (ltb-true a.line b.line l)
    by (inr r) = let parts = and_parts _ _ r in inr (eqb-true a.line b.line parts.0, ltb-true a.column b.column parts.1)

pub stands : (a b : Pos) → Before a b → stands_before a b ≡ true
stands a b (inl l) = or_left _ _ (lt-ltb a.line b.line l)
stands a b (inr r) = or_right _ _ (and_from _ _ (eq-eqb a.line b.line r.0) (lt-ltb a.column b.column r.1))

pub further : (a b c : Pos) → Before a b → Before b c → Before a c
further a b c (inl p) (inl q) = inl (omega arith)
further a b c (inl p) (inr q) = inl (omega (arith, q.0))
further a b c (inr p) (inl q) = inl (omega (arith, p.0))
further a b c (inr p) (inr q) = inr (p.0 ∙ q.0, omega (arith, p.1, q.1))

-- the larger of two does not stand before the smaller
pub not_after : (a b : Pos) → stands_before a b ≡ true → stands_before b a ≡ false
not_after a b e = by (before a b e)
  where
    by : Before a b → stands_before b a ≡ false
    by (inl l) = or_from _ _ (le-ltb b.line a.line (omega arith)) (and_left _ _ (ne_eqb b.line a.line (λ same. omega arith)))
    by (inr r) = or_from _ _ (le-ltb b.line a.line (omega (arith, r.0))) (and_right _ _ (le-ltb b.column a.column (omega (arith, r.1))))

-- ---- lists

-- this place is smaller than each of these
abbrev pub AllAfter : Pos → List Pos → Type 0
AllAfter place later = AllByRecursion (λ other. stands_before place other ≡ true) later

-- the same as `AreGrowing`, place by place
abbrev pub Grow : List Pos → Type 0
Grow [] = Unit {0}
Grow (place ∷ later) = AllAfter place later × Grow later

pub grow : (places : List Pos) → AreGrowing places → Grow places
grow [] h = tt
grow (place ∷ later) h = (after later (λ j d within. h 0 (suc j) d (omega arith) (omega arith)), grow later (λ i j d below within. h (suc i) (suc j) d (omega arith) (omega arith)))
  where
    after : (later : List Pos) → ((j : ℕ) (d : Pos) → j < length later → stands_before place (slice_index_or later j d) ≡ true) → AllAfter place later
    after [] h = tt
    after (other ∷ later) h = (h 0 other (omega arith), after later (λ j d within. h (suc j) d (omega arith)))

pub growing : (places : List Pos) → Grow places → AreGrowing places
growing [] h i j d below within = absurd (omega arith)
growing (place ∷ later) h i zero d below within = absurd (omega arith)
growing (place ∷ later) h zero (suc j) d below within = one later h.0 j (omega arith)
  where
    one : (later : List Pos) → AllAfter place later → (j : ℕ) → j < length later → stands_before place (slice_index_or later j d) ≡ true
    one [] a j within = absurd (omega arith)
    one (other ∷ later) a zero within = a.0
    one (other ∷ later) a (suc j) within = one later a.1 j (omega arith)
growing (place ∷ later) h (suc i) (suc j) d below within = growing later h.1 i j d (omega arith) (omega arith)

-- where tokens stand
abbrev pub places_of : List Token → List Pos
places_of tokens = map (λ token. token.pos) tokens

-- where the places of tokens grow, so do those of the first of them, and of the last
first_after : (place : Pos) (front back : List Token) → AllAfter place (places_of (front ++ back)) → AllAfter place (places_of front)
first_after place [] back h = tt
first_after place (t ∷ front) back h = (h.0, first_after place front back h.1)

pub first_grow : (front back : List Token) → Grow (places_of (front ++ back)) → Grow (places_of front)
first_grow [] back h = tt
first_grow (t ∷ front) back h = (first_after t.pos front back h.0, first_grow front back h.1)

pub last_grow : (front back : List Token) → Grow (places_of (front ++ back)) → Grow (places_of back)
last_grow [] back h = h
last_grow (t ∷ front) back h = last_grow front back h.1
