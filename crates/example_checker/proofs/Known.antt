-- Prices that are known, and are the same among others.
use Rattle.std.proofs.Common.{arith, subst, ◌≡◌, ℕ, zero, suc, ◌+◌, ◌⊎◌, inl, inr, List, [], ◌∷◌, map, length, set, Option, Some, None, refl, ap, ap₂, sym, ◌∙◌}
use Rattle.std.proofs.lemmas.List.{length-map}
use Rattle.std.proofs.lemmas.Option.{slice_get-map}
use Rattle.std.proofs.lemmas.Simd.{map-map}
use Rattle.std.specs.Option.{option_and_then, option_flatten, option_map}
use Rattle.std.specs.List.{slice_get}
use Rattle.graphql_parser.specs.trees.Parts.{Name}
use Rattle.graphql_parser.specs.trees.Request.{SelectionSet}
use Rattle.example_checker.specs.Costs.{Fragment, Fragments, set_cost, fragment_cost}
use Rattle.example_checker.specs.Prices.{AreKnownIn, capped, price_in, next_prices, prices_after}
use Rattle.example_checker.proofs.Depths.{Grows, grows_set, stable, table}
use Rattle.example_checker.proofs.Rounds.{round_is, priced}

flattened : (x : Option (Option ℕ)) (c : ℕ) → option_flatten x ≡ Some c → x ≡ Some (Some c)
flattened None c e = absurd (cc)
flattened (Some None) c e = absurd (cc)
flattened (Some (Some p)) c e = ap Some e

found_in : (place : Option ℕ) (prices others : List (Option ℕ)) → AreKnownIn prices others →
    Grows (option_and_then (λ (i : ℕ). option_flatten (slice_get prices i)) place) (option_and_then (λ (i : ℕ). option_flatten (slice_get others i)) place)
found_in None prices others known = record { keeps = λ c e. e }
found_in (Some i) prices others known = record { keeps = λ c e. ap option_flatten (known i c (flattened (slice_get prices i) c e)) }

grows_capped : (limit : ℕ) (x y : Option ℕ) → Grows x y → Grows (capped limit x) (capped limit y)
grows_capped limit None y p = record { keeps = λ c e. absurd (cc) }
grows_capped limit (Some a) y p = record { keeps = λ c e. ap (capped limit) (p.keeps a refl) ∙ e }

-- what is selected has the price that it has by these prices by the others, too
pub set_known : (limit : ℕ) (fs : Fragments) (prices others : List (Option ℕ)) → AreKnownIn prices others → (set : SelectionSet) →
    Grows (capped limit (set_cost (price_in fs prices) set)) (capped limit (set_cost (price_in fs others) set))
set_known limit fs prices others known set =
    grows_capped limit (set_cost (price_in fs prices) set) (set_cost (price_in fs others) set)
    (grows_set (price_in fs prices) (price_in fs others) (λ name. found_in _ prices others known) set)

some_same : {a b : Option ℕ} → Some a ≡ Some b → a ≡ b
some_same p = cc

maps_known : {V : Type 0} (g h : V → Option ℕ) → ((v : V) → Grows (g v) (h v)) → (vs : List V) → AreKnownIn (map g vs) (map h vs)
maps_known g h p [] place price e = absurd (cc)
maps_known g h p (v ∷ vs) zero price e = ap Some ((p v).keeps price (some_same e))
maps_known g h p (v ∷ vs) (suc place) price e = maps_known g h p vs place price e

-- a round keeps what is known
next_known : (limit : ℕ) (fs : Fragments) (prices others : List (Option ℕ)) → AreKnownIn prices others → AreKnownIn (next_prices limit fs prices) (next_prices limit fs others)
next_known limit fs prices others known =
    maps_known (λ (f : Name × Fragment). capped limit (set_cost (price_in fs prices) f.1.node.selection_set.node)) (λ (f : Name × Fragment). capped limit (set_cost (price_in fs others) f.1.node.selection_set.node))
    (λ f. set_known limit fs prices others known f.1.node.selection_set.node) fs

same_one : (x y : Option ℕ) → ((c : ℕ) → x ≡ Some c → y ≡ Some c) → ((c : ℕ) → y ≡ Some c → x ≡ Some c) → x ≡ y
same_one (Some a) y p q = sym (p a refl)
same_one None (Some b) p q = q b refl
same_one None None p q = refl

-- prices that are known among each other are the same
same_known : (xs ys : List (Option ℕ)) → length xs ≡ length ys → AreKnownIn xs ys → AreKnownIn ys xs → xs ≡ ys
same_known [] [] n p q = refl
same_known [] (y ∷ ys) n p q = absurd (omega arith)
same_known (x ∷ xs) [] n p q = absurd (omega arith)
same_known (x ∷ xs) (y ∷ ys) n p q = ap₂ (λ (a : Option ℕ) (as₀ : List (Option ℕ)). a ∷ as₀) (same_one x y (λ c e. some_same (p zero c (ap Some e))) (λ c e. some_same (q zero c (ap Some e)))) (same_known xs ys (omega arith) (λ i. p (suc i)) (λ i. q (suc i)))

-- ---- one price is put among the others

with_one : (xs : List (Option ℕ)) (i j : ℕ) (v : Option ℕ) → (slice_get (set xs i v) j ≡ slice_get xs j) ⊎ ((j ≡ i) × (slice_get (set xs i v) j ≡ Some v))
with_one [] i j v = inl refl
with_one (x ∷ xs) zero zero v = inr (refl, refl)
with_one (x ∷ xs) zero (suc j) v = inl refl
with_one (x ∷ xs) (suc i) zero v = inl refl
with_one (x ∷ xs) (suc i) (suc j) v = elim (with_one xs i j v) as (λ _. (slice_get (set xs i v) j ≡ slice_get xs j) ⊎ ((suc j ≡ suc i) × (slice_get (set xs i v) j ≡ Some v))) [ inl e ↦ inl e | inr e ↦ inr (ap suc e.0, e.1) ]

put_one : (prices others : List (Option ℕ)) (i j : ℕ) (v : Option ℕ) (price : ℕ) → AreKnownIn prices others → ((c : ℕ) → v ≡ Some c → slice_get others i ≡ Some (Some c)) →
    slice_get (set prices i v) j ≡ Some (Some price) → (slice_get (set prices i v) j ≡ slice_get prices j) ⊎ ((j ≡ i) × (slice_get (set prices i v) j ≡ Some v)) →
    slice_get others j ≡ Some (Some price)
put_one prices others i j v price known right e (inl same) = known j price (sym same ∙ e)
put_one prices others i j v price known right e (inr here) = ap (slice_get others) here.0 ∙ right price (some_same (sym here.1 ∙ e))

put_known : (prices others : List (Option ℕ)) (i : ℕ) (v : Option ℕ) → AreKnownIn prices others → ((c : ℕ) → v ≡ Some c → slice_get others i ≡ Some (Some c)) → AreKnownIn (set prices i v) others
put_known prices others i v known right j price e = put_one prices others i j v price known right e (with_one prices i j v)

-- ---- the prices after as many rounds as there are fragments

abbrev pub last_prices : ℕ → Fragments → List (Option ℕ)
last_prices limit fs = prices_after limit fs (length fs)

after_round : (limit : ℕ) (fs : Fragments) (k : ℕ) → prices_after limit fs (suc k) ≡ map (capped limit) (table fs (suc k))
after_round limit fs k = round_is limit fs k (prices_after limit fs k) (priced limit fs k) ∙ sym (map-map (capped limit) (λ (f : Name × Fragment). fragment_cost fs (suc k) f.1) fs)

lasting_at : (limit : ℕ) (fs : Fragments) (n : ℕ) → n ≡ length fs → next_prices limit fs (prices_after limit fs n) ≡ prices_after limit fs n
lasting_at limit [] zero e = refl
lasting_at limit (f ∷ fs) zero e = absurd (omega arith)
lasting_at limit fs (suc n) e =
    let same : table fs (suc (suc n)) ≡ table fs (suc n) = ap (λ (k : ℕ). table fs (suc k)) e ∙ (sym (stable fs) ∙ ap (table fs) (sym e)) in
    after_round limit fs (suc n) ∙ (ap (map (capped limit)) same ∙ sym (after_round limit fs n))

-- a round more changes nothing
lasting : (limit : ℕ) (fs : Fragments) → next_prices limit fs (last_prices limit fs) ≡ last_prices limit fs
lasting limit fs = lasting_at limit fs (length fs) refl

many_next : (limit : ℕ) (fs : Fragments) (prices : List (Option ℕ)) → length (next_prices limit fs prices) ≡ length fs
many_next limit fs prices = length-map fs (λ (f : Name × Fragment). capped limit (set_cost (price_in fs prices) f.1.node.selection_set.node))

many_last : (limit : ℕ) (fs : Fragments) → length (last_prices limit fs) ≡ length fs
many_last limit fs = sym (ap length (lasting limit fs)) ∙ many_next limit fs (last_prices limit fs)

-- the prices that are known after k rounds from the start, and right
pub record Between (limit : ℕ) (fs : Fragments) (k : ℕ) (prices : List (Option ℕ)) : Type 0 where
  pub many : length prices ≡ length fs
  pub least : AreKnownIn (prices_after limit fs k) prices
  pub most : AreKnownIn prices (last_prices limit fs)

pub between_start : (limit : ℕ) (fs : Fragments) (prices : List (Option ℕ)) → length prices ≡ length fs → AreKnownIn prices (last_prices limit fs) → Between limit fs zero prices
between_start limit fs prices n known = record { many = n; least = λ place price e. absurd (cc); most = known }

pub between_next : (limit : ℕ) (fs : Fragments) (k : ℕ) (prices next : List (Option ℕ)) → Between limit fs k prices → next ≡ next_prices limit fs prices → Between limit fs (k + 1) next
between_next limit fs k prices next b e =
    let one : suc k ≡ k + 1 = omega arith in
    record {
      many = ap length e ∙ many_next limit fs prices;
      least = subst (λ (n : ℕ). AreKnownIn (prices_after limit fs n) next) one (subst (AreKnownIn (prices_after limit fs (suc k))) (sym e) (next_known limit fs (prices_after limit fs k) prices b.least));
      most = subst (λ (ps : List (Option ℕ)). AreKnownIn ps (last_prices limit fs)) (sym e) (subst (AreKnownIn (next_prices limit fs prices)) (lasting limit fs) (next_known limit fs prices (last_prices limit fs) b.most));
    }

-- there was a round for each fragment
pub rounds_over : (limit : ℕ) (fs : Fragments) (k : ℕ) (prices : List (Option ℕ)) → Between limit fs k prices → k ≡ length fs → prices ≡ last_prices limit fs
rounds_over limit fs k prices b e =
    same_known prices (last_prices limit fs) (b.many ∙ sym (many_last limit fs)) b.most (subst (λ (n : ℕ). AreKnownIn (prices_after limit fs n) prices) e b.least)

stays_known : (limit : ℕ) (fs : Fragments) (prices : List (Option ℕ)) → next_prices limit fs prices ≡ prices → (k : ℕ) → AreKnownIn (prices_after limit fs k) prices
stays_known limit fs prices e zero place price p = absurd (cc)
stays_known limit fs prices e (suc k) place price p = subst (AreKnownIn (prices_after limit fs (suc k))) e (next_known limit fs (prices_after limit fs k) prices (stays_known limit fs prices e k)) place price p

-- a round changed nothing
pub round_same : (limit : ℕ) (fs : Fragments) (k : ℕ) (prices next : List (Option ℕ)) → Between limit fs k prices → next ≡ next_prices limit fs prices → next ≡ prices → prices ≡ last_prices limit fs
round_same limit fs k prices next b e same =
    same_known prices (last_prices limit fs) (b.many ∙ sym (many_last limit fs)) b.most (stays_known limit fs prices (sym e ∙ same) (length fs))

-- ---- the first prices

right_one : (limit : ℕ) (fs : Fragments) (prices : List (Option ℕ)) (i : ℕ) (f : Name × Fragment) → AreKnownIn prices (last_prices limit fs) → slice_get fs i ≡ Some f →
    (c : ℕ) → capped limit (set_cost (price_in fs prices) f.1.node.selection_set.node) ≡ Some c → slice_get (last_prices limit fs) i ≡ Some (Some c)
right_one limit fs prices i f known at c e =
    let last = last_prices limit fs in
    ap (λ (ps : List (Option ℕ)). slice_get ps i) (sym (lasting limit fs))
    ∙ (slice_get-map (λ (f : Name × Fragment). capped limit (set_cost (price_in fs last) f.1.node.selection_set.node)) fs i
    ∙ (ap (option_map (λ (f : Name × Fragment). capped limit (set_cost (price_in fs last) f.1.node.selection_set.node))) at
    ∙ ap Some ((set_known limit fs prices last known f.1.node.selection_set.node).keeps c e)))

-- one more is priced
pub one_priced : (limit : ℕ) (fs : Fragments) (prices : List (Option ℕ)) (i : ℕ) (f : Name × Fragment) (v : Option ℕ) → AreKnownIn prices (last_prices limit fs) → slice_get fs i ≡ Some f →
    v ≡ capped limit (set_cost (price_in fs prices) f.1.node.selection_set.node) → AreKnownIn (set prices i v) (last_prices limit fs)
one_priced limit fs prices i f v known at e =
    put_known prices (last_prices limit fs) i v known (λ c p. right_one limit fs prices i f known at c (sym e ∙ p))
