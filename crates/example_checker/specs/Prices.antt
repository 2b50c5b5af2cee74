-- How the costs of fragments come to be known, in rounds, as prices that are at most one more than the limit.
use Rattle.std.specs.Prelude.{◌≡◌, ℕ, zero, suc, ◌+◌, min, List, [], map, Option, Some, nat_eq}
use Rattle.std.specs.Option.{option_map, option_and_then, option_flatten}
use Rattle.std.specs.List.{slice_get, position}
use Rattle.std.specs.Cmp.Lexicographic.{pointwise}
use Rattle.graphql_parser.specs.trees.Parts.{Name}
use Rattle.example_checker.specs.Costs.{Fragments, set_cost}

-- a cost, or one more than the limit where it is greater than that
abbrev pub capped : ℕ → Option ℕ → Option ℕ
capped limit c = option_map (λ n. min n (limit + 1)) c

-- the price of the fragment of a name, where the fragments have these prices
abbrev pub price_in : Fragments → List (Option ℕ) → Name → Option ℕ
price_in fragments prices name = option_and_then (λ i. option_flatten (slice_get prices i)) (position (pointwise nat_eq name) (map (λ f. f.0) fragments))

-- one round: the price of each fragment by these prices
abbrev pub next_prices : ℕ → Fragments → List (Option ℕ) → List (Option ℕ)
next_prices limit fragments prices = map (λ f. capped limit (set_cost (price_in fragments prices) f.1.node.selection_set.node)) fragments

-- the prices after so many rounds; before the first none is known
abbrev pub prices_after : ℕ → Fragments → ℕ → List (Option ℕ)
prices_after limit fragments zero = []
prices_after limit fragments (suc rounds) = next_prices limit fragments (prices_after limit fragments rounds)

-- each price that is known among these is known among the others, and is the same there
abbrev pub AreKnownIn : List (Option ℕ) → List (Option ℕ) → Type 0
AreKnownIn prices others = (place price : ℕ) → slice_get prices place ≡ Some (Some price) → slice_get others place ≡ Some (Some price)
