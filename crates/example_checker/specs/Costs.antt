-- What a request costs: a field costs one and what is selected of it, a spread what its fragment selects.
use Rattle.std.specs.Prelude.{◌≡◌, ℕ, zero, suc, ◌+◌, List, [], ◌∷◌, Option, Some, None}
use Rattle.std.specs.Option.{option_map, option_and_then}
use Rattle.graphql_parser.specs.calls.Named.{named}
use Rattle.graphql_parser.specs.trees.Parts.{Name}
use Rattle.graphql_parser.specs.trees.Request.{Document, Operations, OperationDefinition, FragmentDefinition, Selection, SelectionSet, field, fragment_spread, inline_fragment, no_selections, selection_and, single, multiple}
use Rattle.graphql_parser.specs.types.Positioned.{Positioned}

-- two costs together; there is none where one of the two is missing
abbrev pub both : Option ℕ → Option ℕ → Option ℕ
both None d = None
both (Some c) d = option_map (λ e. c + e) d

-- what a selection or a set costs, where `cost_of` gives what the fragment of a name costs
abbrev mutual
  pub selection_cost : (Name → Option ℕ) → Selection → Option ℕ
  selection_cost cost_of (field pos alias name arguments directives set_pos set) = both (Some 1) (set_cost cost_of set)
  selection_cost cost_of (fragment_spread s) = cost_of s.node.fragment_name.node
  selection_cost cost_of (inline_fragment pos condition directives set_pos set) = set_cost cost_of set

  pub set_cost : (Name → Option ℕ) → SelectionSet → Option ℕ
  set_cost cost_of no_selections = Some 0
  set_cost cost_of (selection_and pos x xs) = both (selection_cost cost_of x) (set_cost cost_of xs)

abbrev pub Fragment : Type 0
Fragment = Positioned FragmentDefinition

abbrev pub Fragments : Type 0
Fragments = List (Name × Fragment)

-- what a fragment costs whose spreads nest less than `depth` deep; none where they nest deeper, or where one names no fragment
abbrev pub fragment_cost : Fragments → ℕ → Fragment → Option ℕ
fragment_cost fragments zero f = None
fragment_cost fragments (suc depth) f = set_cost (λ name. option_and_then (fragment_cost fragments depth) (named name fragments)) f.node.selection_set.node

-- what the fragment of a name costs
abbrev pub named_cost : Fragments → ℕ → Name → Option ℕ
named_cost fragments depth name = option_and_then (fragment_cost fragments depth) (named name fragments)

-- what all operations cost together
abbrev pub entries_cost : (Name → Option ℕ) → List (Name × Positioned OperationDefinition) → Option ℕ
entries_cost cost_of [] = Some 0
entries_cost cost_of (o ∷ os) = both (set_cost cost_of o.1.node.selection_set.node) (entries_cost cost_of os)

abbrev pub operations_cost : (Name → Option ℕ) → Operations → Option ℕ
operations_cost cost_of (single o) = set_cost cost_of o.node.selection_set.node
operations_cost cost_of (multiple os) = entries_cost cost_of os

-- what a request costs whose spreads nest at most so deep
abbrev pub cost_at_depth : ℕ → Document → Option ℕ
cost_at_depth depth d = operations_cost (named_cost d.fragments depth) d.operations

-- the request costs so much: that is what it costs at some depth. A request has no cost where its operations lead to a fragment
-- that spreads itself, or to one that isn't there
abbrev pub Costs : Document → ℕ → Type 0
Costs d cost = (depth : ℕ) × (cost_at_depth depth d ≡ Some cost)
