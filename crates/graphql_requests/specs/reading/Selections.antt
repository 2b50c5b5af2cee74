-- Reading selections and selection sets from lists of tokens.
use Rattle.std.specs.Prelude.{ℕ, zero, suc, true, ◌||◌, Option, Some, None}
use Rattle.graphql_tokens.specs.declared.pos.Positioned.{Positioned}
use Rattle.graphql_tokens.specs.tokens.Token.{Token}
use Rattle.graphql_syntax.specs.trees.Parts.{Directives}
use Rattle.graphql_trees.specs.trees.Request.{TypeCondition, Selection}
use Rattle.graphql_requests.specs.grammar.Selections.{Set, field_of, fragment_name, spread_of, condition_of, inline_of, selection_set_of}
use Rattle.graphql_reading.specs.grammar.Tests.{Test, punct, keyword, any_name}
use Rattle.graphql_grammar.specs.reading.Arguments.{maybe_arguments_at, directives_at}
use Rattle.graphql_reading.specs.reading.Outcome.{Reader, one_at, then_at, mapped_at, choose_at, opt_at, deep_at, plus_at}

-- ---- fields

-- a name, and the name after its `:`, if there is one
abbrev pub as_alias : Token → Option Token → Option Token × Token
as_alias first None = (None, first)
as_alias first (Some name) = (Some first, name)

abbrev pub aliased_at : Reader (Option Token × Token)
aliased_at = mapped_at (λ x. as_alias x.0 x.1) (then_at (one_at any_name) (opt_at (punct ":") (mapped_at (λ x. x.1) (then_at (one_at (punct ":")) (one_at any_name)))))

abbrev pub field_at : ℕ → Reader Set → Reader (Positioned Selection)
field_at values set = mapped_at field_of (then_at aliased_at (then_at (maybe_arguments_at true values) (then_at (directives_at true values) (opt_at (punct "{") set))))

-- ---- spreads and inline fragments

abbrev pub type_condition_at : Reader (Positioned TypeCondition)
type_condition_at = mapped_at condition_of (then_at (one_at (keyword "on")) (one_at any_name))

-- what follows `...` in an inline fragment
abbrev pub Inline : Type 0
Inline = Option (Positioned TypeCondition) × (Directives × Set)

abbrev pub inline_first : Test
inline_first t = keyword "on" t || punct "@" t || punct "{" t

abbrev pub inline_at : ℕ → Reader Set → Reader Inline
inline_at values set = then_at (opt_at (keyword "on") type_condition_at) (then_at (directives_at true values) set)

pub data AfterDots : Type 0 where
  a_name : Token × Directives → AfterDots
  an_inline : Inline → AfterDots

abbrev pub dotted : Token × AfterDots → Positioned Selection
dotted (dots, a_name x) = spread_of (dots, x)
dotted (dots, an_inline x) = inline_of (dots, x)

abbrev pub dots_at : ℕ → Reader Inline → Reader (Positioned Selection)
dots_at values inline =
    mapped_at dotted (then_at (one_at (punct "...")) (choose_at fragment_name (mapped_at a_name (then_at (one_at fragment_name) (directives_at true values))) (mapped_at an_inline inline)))

-- ---- sets

abbrev pub selection_first : Test
selection_first t = any_name t || punct "..." t

abbrev pub selection_at : ℕ → Reader Set → Reader Inline → Reader (Positioned Selection)
selection_at values set inline = choose_at (punct "...") (dots_at values inline) (field_at values set)

abbrev pub a_set_at : Reader (Positioned Selection) → Reader Set
a_set_at selection = mapped_at selection_set_of (then_at (one_at (punct "{")) (then_at (plus_at selection_first selection) (one_at (punct "}"))))

unfoldable pub selection_set_at : ℕ → ℕ → Reader Set
selection_set_at values zero ts = a_set_at (selection_at values (deep_at (punct "{")) (deep_at inline_first)) ts
selection_set_at values (suc s) ts = a_set_at (selection_at values (selection_set_at values s) (inline_at values (selection_set_at values s))) ts
