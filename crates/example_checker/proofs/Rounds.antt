-- What the prices are after some rounds.
use Rattle.std.proofs.Common.{arith, ◌≡◌, ℕ, zero, suc, ◌+◌, Bool, true, false, cond, List, [], ◌∷◌, map, length, Option, Some, None, nat_eq, refl, ap, ap₂, ◌∙◌}
use Rattle.std.proofs.lemmas.Bool.Decides.{nat_tests}
use Rattle.std.specs.Prelude.{nat_lt, not}
use Rattle.std.specs.Option.{option_and_then, option_flatten}
use Rattle.std.specs.List.{slice_get, position, prefix_len}
use Rattle.std.specs.Cmp.Lexicographic.{pointwise, nat_list_eq_equiv}
use Rattle.graphql_parser.specs.calls.Named.{named}
use Rattle.graphql_parser.specs.trees.Parts.{Name}
use Rattle.example_checker.specs.Costs.{Fragment, Fragments, fragment_cost, named_cost}
use Rattle.example_checker.specs.Prices.{capped, price_in, next_prices, prices_after}
use Rattle.example_checker.proofs.Capped.{capped_again, set_alike}

same_either_way : (m n : List ℕ) → pointwise nat_eq m n ≡ pointwise nat_eq n m
same_either_way m n = nat_list_eq_equiv.symm m n

zero-lt : (n : ℕ) → nat_lt 0 (suc n) ≡ true
zero-lt n = grind (arith, nat_tests)

lt-suc : (p n : ℕ) → nat_lt (suc p) (suc n) ≡ nat_lt p n
lt-suc p n = grind (arith, nat_tests)

-- of a first fragment and the others, the place that is looked up
step : (x : Option ℕ) (prices : List (Option ℕ)) (b : Bool) (p n : ℕ) →
    option_and_then (λ (i : ℕ). option_flatten (slice_get (x ∷ prices) i)) (cond (nat_lt (cond (not b) (1 + p) 0) (suc n)) (Some (cond (not b) (1 + p) 0)) None)
    ≡ cond b x (option_and_then (λ (i : ℕ). option_flatten (slice_get prices i)) (cond (nat_lt p n) (Some p) None))
step x prices true p n = rw (zero-lt n) refl
step x prices false p n =
    let e : 1 + p ≡ suc p = omega arith in
    rw e (rw (lt-suc p n) (elim (nat_lt p n) as (λ b. option_and_then (λ (i : ℕ). option_flatten (slice_get (x ∷ prices) i)) (cond b (Some (suc p)) None) ≡ option_and_then (λ (i : ℕ). option_flatten (slice_get prices i)) (cond b (Some p) None)) [ true ↦ refl | false ↦ refl ]))

and_then-cond : {V : Type 0} (g : V → Option ℕ) (b : Bool) (v : V) (r : Option V) → cond b (g v) (option_and_then g r) ≡ option_and_then g (cond b (Some v) r)
and_then-cond g true v r = refl
and_then-cond g false v r = refl

-- the place that is looked up leads to the price of the first fragment of the name
pub price_of_first : {V : Type 0} (g : V → Option ℕ) (fs : List (Name × V)) (name : Name) →
    option_and_then (λ (i : ℕ). option_flatten (slice_get (map (λ (f : Name × V). g f.1) fs) i)) (position (pointwise nat_eq name) (map (λ (f : Name × V). f.0) fs)) ≡ option_and_then g (named name fs)
price_of_first g [] name = refl
price_of_first {V} g (f ∷ fs) name =
    step (g f.1) (map (λ (f : Name × V). g f.1) fs) (pointwise nat_eq name f.0) (prefix_len (λ n. not (pointwise nat_eq name n)) (map (λ (f : Name × V). f.0) fs)) (length (map (λ (f : Name × V). f.0) fs))
    ∙ (ap₂ (λ (b : Bool) (r : Option ℕ). cond b (g f.1) r) (same_either_way name f.0) (price_of_first g fs name)
    ∙ and_then-cond g (pointwise nat_eq f.0 name) f.1 (named name fs))

capped-and_then : {V : Type 0} (limit : ℕ) (g : V → Option ℕ) (v : Option V) → option_and_then (λ x. capped limit (g x)) v ≡ capped limit (option_and_then g v)
capped-and_then limit g None = refl
capped-and_then limit g (Some v) = refl

-- where the prices are costs up to the limit, so are those that are looked up
looked_up : (limit : ℕ) (fs : Fragments) (k : ℕ) (prices : List (Option ℕ)) → prices ≡ map (λ (f : Name × Fragment). capped limit (fragment_cost fs k f.1)) fs →
    (name : Name) → price_in fs prices name ≡ capped limit (named_cost fs k name)
looked_up limit fs k prices e name =
    ap (λ (prices : List (Option ℕ)). price_in fs prices name) e
    ∙ (price_of_first (λ f. capped limit (fragment_cost fs k f)) fs name ∙ capped-and_then limit (fragment_cost fs k) (named name fs))

none_known : {V : Type 0} (p : Option ℕ) (v : Option V) → option_and_then {T = ℕ} {U = ℕ} (λ (i : ℕ). option_flatten (slice_get [] i)) p ≡ option_and_then {T = V} {U = ℕ} (λ (x : V). None) v
none_known None None = refl
none_known None (Some v) = refl
none_known (Some p) None = refl
none_known (Some p) (Some v) = refl

none_capped : {V : Type 0} (limit : ℕ) (v : Option V) → option_and_then {T = V} {U = ℕ} (λ (x : V). None) v ≡ capped limit (option_and_then {T = V} {U = ℕ} (λ (x : V). None) v)
none_capped limit None = refl
none_capped limit (Some v) = refl

-- a round by prices that are costs up to the limit gives such prices, one level deeper
pub round_is : (limit : ℕ) (fs : Fragments) (k : ℕ) (prices : List (Option ℕ)) → ((name : Name) → price_in fs prices name ≡ capped limit (named_cost fs k name)) →
    next_prices limit fs prices ≡ map (λ (f : Name × Fragment). capped limit (fragment_cost fs (suc k) f.1)) fs
round_is limit fs k prices same =
    ap (λ (h : Fragment → Option ℕ). map (λ (f : Name × Fragment). h f.1) fs)
    (λ i. λ f. set_alike limit (price_in fs prices) (named_cost fs k) (λ name. ap (capped limit) (same name) ∙ capped_again limit (named_cost fs k name)) f.node.selection_set.node i)

-- the prices are the costs, up to the limit
pub priced : (limit : ℕ) → (fs : Fragments) → (k : ℕ) → (name : Name) → price_in fs (prices_after limit fs k) name ≡ capped limit (named_cost fs k name)
priced limit fs zero name =
    none_known (position (pointwise nat_eq name) (map (λ (f : Name × Fragment). f.0) fs)) (named name fs) ∙ none_capped limit (named name fs)
priced limit fs (suc k) name = looked_up limit fs (suc k) (prices_after limit fs (suc k)) (round_is limit fs k (prices_after limit fs k) (priced limit fs k)) name
