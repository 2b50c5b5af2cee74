-- What the price of a request says of its cost.
use Rattle.std.proofs.Common.{arith, ◌≡◌, ℕ, ◌+◌, ◌≤◌, ◌<◌, min, List, length, Option, Some, None, refl, ap, sym, ◌∙◌}
use Rattle.graphql_parser.specs.trees.Request.{Document}
use Rattle.example_checker.specs.Costs.{Costs, operations_cost, named_cost, cost_at_depth}
use Rattle.example_checker.specs.Prices.{capped, price_in, prices_after}
use Rattle.example_checker.proofs.Capped.{capped_again, operations_alike}
use Rattle.example_checker.proofs.Rounds.{priced}
use Rattle.example_checker.proofs.Depths.{enough}

-- the price of a request, by the prices of its fragments after as many rounds as there are
abbrev pub price_of : ℕ → Document → Option ℕ
price_of limit d = capped limit (operations_cost (price_in d.fragments (prices_after limit d.fragments (length d.fragments))) d.operations)

price_of_is : (limit : ℕ) (d : Document) → price_of limit d ≡ capped limit (cost_at_depth (length d.fragments) d)
price_of_is limit d = operations_alike limit (price_in d.fragments (prices_after limit d.fragments (length d.fragments))) (named_cost d.fragments (length d.fragments))
    (λ name. ap (capped limit) (priced limit d.fragments (length d.fragments) name) ∙ capped_again limit (named_cost d.fragments (length d.fragments) name)) d.operations

some_same : {a b : ℕ} → Some a ≡ Some b → a ≡ b
some_same p = cc

small_one : (limit cost c : ℕ) → min c (limit + 1) ≡ cost → cost ≤ limit → c ≡ cost
small_one limit cost c p h = omega arith

large_one : (limit cost c : ℕ) → min c (limit + 1) ≡ cost → limit < cost → limit < c
large_one limit cost c p h = omega arith

small : (limit cost : ℕ) (x : Option ℕ) → capped limit x ≡ Some cost → cost ≤ limit → x ≡ Some cost
small limit cost None p h = absurd (cc)
small limit cost (Some c) p h = ap Some (small_one limit cost c (some_same p) h)

large : (limit cost : ℕ) (x : Option ℕ) → capped limit x ≡ Some cost → limit < cost → (c : ℕ) × (x ≡ Some c) × (limit < c)
large limit cost None p h = absurd (cc)
large limit cost (Some c) p h = (c, refl, large_one limit cost c (some_same p) h)

nothing : (limit : ℕ) (x : Option ℕ) → capped limit x ≡ None → x ≡ None
nothing limit None p = refl
nothing limit (Some c) p = absurd (cc)

pub let_through : (limit cost : ℕ) (d : Document) → price_of limit d ≡ Some cost → cost ≤ limit → Costs d cost
let_through limit cost d p h = (length d.fragments, small limit cost (cost_at_depth (length d.fragments) d) (sym (price_of_is limit d) ∙ p) h)

pub no_other : (limit cost : ℕ) (d : Document) → price_of limit d ≡ Some cost → cost ≤ limit → (other : ℕ) → Costs d other → other ≡ cost
no_other limit cost d p h other q = some_same (sym (enough d other q) ∙ small limit cost (cost_at_depth (length d.fragments) d) (sym (price_of_is limit d) ∙ p) h)

pub too_dear : (limit cost : ℕ) (d : Document) → price_of limit d ≡ Some cost → limit < cost → (cost : ℕ) × Costs d cost × (limit < cost)
too_dear limit cost d p h =
    let found = large limit cost (cost_at_depth (length d.fragments) d) (sym (price_of_is limit d) ∙ p) h in
    (found.0, (length d.fragments, found.1), found.2)

pub endless : (limit : ℕ) (d : Document) → price_of limit d ≡ None → (cost : ℕ) → ¬ Costs d cost
endless limit d p cost q =
    let e : cost_at_depth (length d.fragments) d ≡ Some cost = enough d cost q in
    let n : cost_at_depth (length d.fragments) d ≡ None = nothing limit (cost_at_depth (length d.fragments) d) (sym (price_of_is limit d) ∙ p) in
    absurd (cc)

pub price_by : (limit : ℕ) (d : Document) (prices : List (Option ℕ)) (r : Option ℕ) → prices ≡ prices_after limit d.fragments (length d.fragments) →
    r ≡ capped limit (operations_cost (price_in d.fragments prices) d.operations) → price_of limit d ≡ r
price_by limit d prices r p e = sym (e ∙ ap (λ (ps : List (Option ℕ)). capped limit (operations_cost (price_in d.fragments ps) d.operations)) p)
