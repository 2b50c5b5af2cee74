-- Reading selection sets by the sets that are open around the one that is read.
use Rattle.std.specs.Prelude.{ℕ, zero, suc, pred, Bool, true, false, cond, Option, Some, None, List, [], ◌∷◌, ◌++◌}
use Rattle.graphql_tokens.specs.declared.pos.Pos.{Pos}
use Rattle.graphql_tokens.specs.declared.pos.Positioned.{Positioned}
use Rattle.graphql_tokens.specs.tokens.Token.{Token}
use Rattle.graphql_syntax.specs.trees.Parts.{placed, Name, Arguments, Directives}
use Rattle.graphql_trees.specs.trees.Request.{TypeCondition, Selection, field, fragment_spread, inline_fragment, no_selections, set_of}
use Rattle.graphql_reading.specs.grammar.Relations.{given}
use Rattle.graphql_reading.specs.grammar.Fronts.{syntax}
use Rattle.graphql_reading.specs.grammar.Places.{name_of, nowhere}
use Rattle.graphql_requests.specs.grammar.Selections.{Set, fragment_name}
use Rattle.graphql_reading.specs.grammar.Tests.{punct, keyword, any_name}
use Rattle.graphql_grammar.specs.reading.Arguments.{maybe_arguments_at, directives_at}
use Rattle.graphql_reading.specs.reading.Outcome.{Outcome, Read, Refused, Reader, ◌>>=◌, one_at, then_at, mapped_at, choose_at, none_at, deep_at, many_at, with_front}
use Rattle.graphql_requests.specs.reading.Selections.{type_condition_at, inline_first, inline_at, selection_first, selection_at, selection_set_at}

-- ---- a selection up to its set

-- a selection without its set, and the place of the `{` of that, if it has one
abbrev pub Heading : Type 0
Heading = Positioned Selection × Option Pos

-- the selection with this set, if it may have one
abbrev pub with_set : Set → Selection → Selection
with_set set (field pos alias name arguments directives set_pos selection_set) = field pos alias name arguments directives set.pos set.node
with_set set (fragment_spread spread) = fragment_spread spread
with_set set (inline_fragment pos condition directives set_pos selection_set) = inline_fragment pos condition directives set.pos set.node

-- whether a set may stand in one that may nest so deep
abbrev pub may_nest : ℕ → Bool
may_nest zero = false
may_nest (suc s) = true

-- the `{` of a set, where one may stand
abbrev pub brace_at : Bool → Reader Pos
brace_at nests = mapped_at (λ t. t.pos) (λ ts. cond nests (one_at (punct "{") ts) (deep_at (punct "{") ts))

abbrev pub maybe_brace_at : Bool → Reader (Option Pos)
maybe_brace_at nests = choose_at (punct "{") (mapped_at Some (brace_at nests)) (none_at None)

-- an alias, if there is one, and a name
abbrev pub Names : Type 0
Names = Option (Positioned Name) × Positioned Name

abbrev pub as_names : Positioned Name → Option (Positioned Name) → Names
as_names first None = (None, first)
as_names first (Some name) = (Some first, name)

abbrev pub name_at : Reader (Positioned Name)
name_at = mapped_at name_of (one_at any_name)

-- the name after a `:`, if there is one
abbrev pub after_colon_at : Reader (Option (Positioned Name))
after_colon_at = choose_at (punct ":") (mapped_at (λ x. Some x.1) (then_at (one_at (punct ":")) name_at)) (none_at None)

abbrev pub names_at : Reader Names
names_at = mapped_at (λ x. as_names x.0 x.1) (then_at name_at after_colon_at)

abbrev pub place_of : Names → Pos
place_of (None, name) = name.pos
place_of (Some alias, name) = alias.pos

abbrev pub bare_field : Names → Arguments → Directives → Positioned Selection
bare_field names arguments directives = record {
  pos = place_of names;
  node = field (place_of names) names.0 names.1 arguments directives nowhere no_selections;
}

abbrev pub given_arguments_at : ℕ → Reader Arguments
given_arguments_at values = mapped_at given (maybe_arguments_at true values)

abbrev pub field_head_at : ℕ → Bool → Reader Heading
field_head_at values nests =
    mapped_at (λ x. (bare_field x.0 x.1.0 x.1.1.0, x.1.1.1))
    (then_at names_at (then_at (given_arguments_at values) (then_at (directives_at true values) (maybe_brace_at nests))))

abbrev pub bare_spread : Pos → Positioned Name → Directives → Positioned Selection
bare_spread dots name directives = record { pos = dots; node = fragment_spread (record { pos = dots; node = record { fragment_name = name; directives = directives } }) }

-- the token in sight, whatever it is
abbrev pub next_at : Reader Token
next_at [] = Refused syntax []
next_at (t ∷ ts) = Read t ts

-- a spread after its dots
abbrev pub spread_at : ℕ → Pos → Reader Heading
spread_at values dots = mapped_at (λ x. (bare_spread dots (name_of x.0) x.1, None)) (then_at (one_at any_name) (directives_at true values))

abbrev pub bare_inline : Pos → Option (Positioned TypeCondition) → Directives → Positioned Selection
bare_inline dots condition directives = record { pos = dots; node = inline_fragment dots condition directives nowhere no_selections }

abbrev pub maybe_condition_at : Reader (Option (Positioned TypeCondition))
maybe_condition_at = choose_at (keyword "on") (mapped_at Some type_condition_at) (none_at None)

abbrev pub inline_head_at : ℕ → Pos → Reader Heading
inline_head_at values dots =
    mapped_at (λ x. (bare_inline dots x.0 x.1.0, Some x.1.1.pos))
    (then_at maybe_condition_at (then_at (directives_at true values) (one_at (punct "{"))))

abbrev pub after_dots_at : ℕ → Bool → Pos → Reader Heading
after_dots_at values nests dots =
    choose_at fragment_name (spread_at values dots) (λ ts. cond nests (inline_head_at values dots ts) (deep_at inline_first ts))

abbrev pub dots_head_at : ℕ → Bool → Reader Heading
dots_head_at values nests ts = next_at ts >>= λ dots rest. after_dots_at values nests dots.pos rest

abbrev pub head_at : ℕ → Bool → Reader Heading
head_at values nests = choose_at (punct "...") (dots_head_at values nests) (field_head_at values nests)

-- the same, after the selections that a set holds so far
abbrev pub onto : List (Positioned Selection) → Reader Heading → Reader (List (Positioned Selection) × Option Pos)
onto front head = mapped_at (λ x. (front ++ x.0 ∷ [], x.1)) head

-- ---- the rest of an open set

abbrev pub deeper_at : ℕ → ℕ → Reader Set
deeper_at values zero = deep_at (punct "{")
deeper_at values (suc s) = selection_set_at values s

-- what follows `...` in an inline fragment
abbrev pub rest_at : ℕ → ℕ → Reader (Option (Positioned TypeCondition) × (Directives × Set))
rest_at values zero = deep_at inline_first
rest_at values (suc s) = inline_at values (selection_set_at values s)

-- a selection of a set in which sets may nest s deep
unfoldable pub item_at : ℕ → ℕ → Reader (Positioned Selection)
item_at values s = selection_at values (deeper_at values s) (rest_at values s)

-- a set, as far as it is read
pub record Opened : Type 0 where
  pub place : Pos
  pub items : List (Positioned Selection)

abbrev pub closed : Opened → Set
closed o = record { pos = o.place; node = set_of o.items }

abbrev pub close_at : Pos → List (Positioned Selection) → Reader Set
close_at place items ts = one_at (punct "}") ts >>= λ _ rest. Read (closed (record { place = place; items = items })) rest

-- after a selection, and where one has to follow
unfoldable pub after_rest : ℕ → ℕ → Opened → Reader Set
after_rest values s o ts = with_front o.items (many_at selection_first (item_at values s) ts) >>= close_at o.place

abbrev pub more : Opened → Positioned Selection → Opened
more o x = record { place = o.place; items = o.items ++ x ∷ [] }

abbrev pub begun : Pos → Opened
begun place = record { place = place; items = [] }

abbrev pub wanted_rest : ℕ → ℕ → Opened → Reader Set
wanted_rest values s o ts = item_at values s ts >>= λ x rest. after_rest values s (more o x) rest

abbrev pub headed : ℕ → ℕ → Heading → List Token → Outcome (Positioned Selection)
headed values s (x, None) rest = Read x rest
headed values s (x, Some place) rest = wanted_rest values (pred s) (begun place) rest >>= λ own rest'. Read (placed (with_set own) x) rest'

-- ---- the sets around it

-- the last of the selections, with this set
abbrev pub fill_last : List (Positioned Selection) → Set → List (Positioned Selection)
fill_last [] set = []
fill_last (x ∷ []) set = placed (with_set set) x ∷ []
fill_last (x ∷ y ∷ ys) set = x ∷ fill_last (y ∷ ys) set

abbrev pub filled_in : Opened → Set → Opened
filled_in o set = record { place = o.place; items = fill_last o.items set }

-- what an open set, in which sets may nest s deep, makes of the set that its last selection waits for
abbrev pub filled : ℕ → ℕ → Opened → Outcome Set → Outcome Set
filled values s o read = read >>= λ own rest. after_rest values s (filled_in o own) rest

-- the open sets around a set in which sets may nest b deep, the innermost first
abbrev pub resume : ℕ → ℕ → List Opened → Outcome Set → Outcome Set
resume values b [] read = read
resume values b (o ∷ os) read = resume values (suc b) os (filled values (suc b) o read)
