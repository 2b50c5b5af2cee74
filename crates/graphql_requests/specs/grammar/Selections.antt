-- Selections and selection sets, and their places (GraphQL October 2021, sections 2.4, 2.5, 2.7 and 2.8).
use Rattle.std.specs.Prelude.{ℕ, zero, suc, true, Option, Some, None, List, [], ◌∷◌}
use Rattle.graphql_tokens.specs.declared.pos.Pos.{Pos}
use Rattle.graphql_tokens.specs.declared.pos.Positioned.{Positioned}
use Rattle.graphql_tokens.specs.tokens.Edition.{Edition}
use Rattle.graphql_tokens.specs.tokens.Token.{Token}
use Rattle.graphql_syntax.specs.trees.Parts.{Name, Arguments, Directives}
use Rattle.graphql_trees.specs.trees.Request.{TypeCondition, Selection, field, fragment_spread, inline_fragment, SelectionSet, no_selections, set_of}
use Rattle.graphql_grammar.specs.grammar.Arguments.{arguments, directives}
use Rattle.graphql_reading.specs.grammar.Relations.{given}
use Rattle.graphql_reading.specs.grammar.Places.{at, name_of, nowhere}
use Rattle.graphql_reading.specs.grammar.Relations.{Rel, one, never, ◌⨾◌, ◌∪◌, mapped, plus, opt}
use Rattle.graphql_reading.specs.grammar.Tests.{Test, punct, keyword, any_name, name_but}

abbrev pub Set : Type 0
Set = Positioned SelectionSet

-- ---- fields

abbrev pub alias_name : Token × Token → Token
alias_name (name, colon) = name

-- Alias? Name
-- Alias : Name ':'
abbrev pub aliased : Rel (Option Token × Token)
aliased = opt (mapped alias_name (one any_name ⨾ one (punct ":"))) ⨾ one any_name

abbrev pub alias_of : Option Token → Option (Positioned Name)
alias_of None = None
alias_of (Some t) = Some (name_of t)

-- a field stands at its alias, or at its name where it has none
abbrev pub field_place : Option Token × Token → Pos
field_place (None, name) = name.pos
field_place (Some alias, name) = alias.pos

-- a field without a set has an empty one, which stands nowhere
abbrev pub set_or_none : Option Set → Set
set_or_none None = record { pos = nowhere; node = no_selections }
set_or_none (Some set) = set

abbrev pub field_of : (Option Token × Token) × (Option Arguments × (Directives × Option Set)) → Positioned Selection
field_of ((alias, name), (arguments, (directives, set))) = record {
  pos = field_place (alias, name);
  node = field (field_place (alias, name)) (alias_of alias) (name_of name) (given arguments) directives (set_or_none set).pos (set_or_none set).node;
}

-- Field : Alias? Name Arguments? Directives? SelectionSet?
abbrev pub a_field : Edition → ℕ → Rel Set → Rel (Positioned Selection)
a_field edition values set = mapped field_of (aliased ⨾ opt (arguments edition true values) ⨾ directives edition true values ⨾ opt set)

-- ---- spreads

-- FragmentName : a Name other than 'on'
abbrev pub fragment_name : Test
fragment_name = name_but ("on" ∷ [])

abbrev pub spread_of : Token × (Token × Directives) → Positioned Selection
spread_of (dots, (name, directives)) = at dots (fragment_spread (at dots (record { fragment_name = name_of name; directives = directives })))

-- FragmentSpread : '...' FragmentName Directives?
abbrev pub a_spread : Edition → ℕ → Rel (Positioned Selection)
a_spread edition values = mapped spread_of (one (punct "...") ⨾ one fragment_name ⨾ directives edition true values)

-- ---- inline fragments

-- TypeCondition : 'on' Name
abbrev pub condition_of : Token × Token → Positioned TypeCondition
condition_of (word, name) = at word (record { on = name_of name })

abbrev pub a_type_condition : Rel (Positioned TypeCondition)
a_type_condition = mapped condition_of (one (keyword "on") ⨾ one any_name)

abbrev pub inline_of : Token × (Option (Positioned TypeCondition) × (Directives × Set)) → Positioned Selection
inline_of (dots, (condition, (directives, set))) = at dots (inline_fragment dots.pos condition directives set.pos set.node)

-- InlineFragment : '...' TypeCondition? Directives? SelectionSet
abbrev pub an_inline_fragment : Edition → ℕ → Rel Set → Rel (Positioned Selection)
an_inline_fragment edition values set = mapped inline_of (one (punct "...") ⨾ opt a_type_condition ⨾ directives edition true values ⨾ set)

-- ---- sets

-- Selection : Field | FragmentSpread | InlineFragment
abbrev pub a_selection : Edition → ℕ → Rel Set → Rel (Positioned Selection)
a_selection edition values set = a_field edition values set ∪ a_spread edition values ∪ an_inline_fragment edition values set

abbrev pub selection_set_of : Token × (List (Positioned Selection) × Token) → Set
selection_set_of (opening, (selections, closing)) = at opening (set_of selections)

-- SelectionSet : '{' Selection+ '}'
abbrev pub a_set : Rel (Positioned Selection) → Rel Set
a_set selection = mapped selection_set_of (one (punct "{") ⨾ plus selection ⨾ one (punct "}"))

-- A set in whose fields and inline fragments sets nest at most so deep. A spread has none.
abbrev pub selection_set : Edition → ℕ → ℕ → Rel Set
selection_set edition values zero = a_set (a_selection edition values never)
selection_set edition values (suc s) = a_set (a_selection edition values (selection_set edition values s))
