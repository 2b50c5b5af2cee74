-- Selections and selection sets don't look at places.
use Rattle.std.proofs.Common.{◌≡◌, ℕ, zero, suc, true, Option, Some, None, List, [], ◌∷◌, map, refl, ap, option_map}
use Rattle.graphql_tokens.specs.declared.pos.Positioned.{Positioned}
use Rattle.graphql_tokens.specs.tokens.Edition.{Current}
use Rattle.graphql_tokens.specs.tokens.Token.{Token}
use Rattle.graphql_syntax.specs.trees.Parts.{Arguments, Directives}
use Rattle.graphql_trees.specs.trees.Request.{TypeCondition, Selection, SelectionSet, set_of}
use Rattle.graphql_reading.specs.grammar.Tests.{punct, keyword, any_name}
use Rattle.graphql_reading.specs.grammar.Limits.{Limits}
use Rattle.graphql_reading.specs.grammar.Places.{nowhere}
use Rattle.graphql_reading.specs.grammar.Relations.{Rel, never}
use Rattle.graphql_reading.specs.grammar.Fronts.{without_place}
use Rattle.graphql_grammar.specs.grammar.Placeless.{unplaced, placeless_argument, placeless_directives}
use Rattle.graphql_requests.specs.grammar.Placeless.{placeless_condition, placeless_selection, placeless_set}
use Rattle.graphql_requests.specs.grammar.Selections.{Set, aliased, field_of, a_field, fragment_name, a_spread, a_type_condition, inline_of, an_inline_fragment, a_selection, a_set, selection_set}
use Rattle.graphql_reading.proofs.IgnoresPlaces.{IgnoresPlaces, ignores-one, ignores-then, ignores-mapped, ignores-either, ignores-plus, ignores-opt, ignores-never}
use Rattle.graphql_grammar.proofs.ArgumentProductions.{ignores-maybe_arguments, ignores-directives}
use Rattle.graphql_requests.proofs.SelectionProductions.{sets}

abbrev pub without-places-of : Option Token × Token → Option Token × Token
without-places-of x = (option_map without_place x.0, without_place x.1)

pub ignores-aliased : IgnoresPlaces (λ c. aliased) without-places-of
ignores-aliased = ignores-then (ignores-opt (ignores-mapped {g = without_place} (λ x. refl) (ignores-then (ignores-one any_name (λ spelling. refl)) (ignores-one (punct ":") (λ spelling. refl))))) (ignores-one any_name (λ spelling. refl))

-- ---- fields

abbrev field-parts : Type 0
field-parts = (Option Token × Token) × (Option Arguments × (Directives × Option Set))

abbrev placeless-parts : field-parts → field-parts
placeless-parts x = (without-places-of x.0, (option_map (map placeless_argument) x.1.0, (placeless_directives x.1.1.0, option_map (unplaced placeless_set) x.1.1.1)))

field-placeless : (x : field-parts) → unplaced placeless_selection (field_of x) ≡ field_of (placeless-parts x)
field-placeless ((None, name), (None, (ds, None))) = refl
field-placeless ((None, name), (None, (ds, Some set))) = refl
field-placeless ((None, name), (Some arguments, (ds, None))) = refl
field-placeless ((None, name), (Some arguments, (ds, Some set))) = refl
field-placeless ((Some alias, name), (None, (ds, None))) = refl
field-placeless ((Some alias, name), (None, (ds, Some set))) = refl
field-placeless ((Some alias, name), (Some arguments, (ds, None))) = refl
field-placeless ((Some alias, name), (Some arguments, (ds, Some set))) = refl

pub ignores-field : {set : Limits → Rel Set} → IgnoresPlaces set (unplaced placeless_set) → IgnoresPlaces (λ c. a_field Current c.values (set c)) (unplaced placeless_selection)
ignores-field h = ignores-mapped {k = field_of} field-placeless (ignores-then ignores-aliased (ignores-then (ignores-maybe_arguments true) (ignores-then (ignores-directives true) (ignores-opt h))))

-- ---- spreads and inline fragments

pub ignores-spread : IgnoresPlaces (λ c. a_spread Current c.values) (unplaced placeless_selection)
ignores-spread = ignores-mapped (λ x. refl) (ignores-then (ignores-one (punct "...") (λ spelling. refl)) (ignores-then (ignores-one fragment_name (λ spelling. refl)) (ignores-directives true)))

pub ignores-type_condition : IgnoresPlaces (λ c. a_type_condition) (unplaced placeless_condition)
ignores-type_condition = ignores-mapped (λ x. refl) (ignores-then (ignores-one (keyword "on") (λ spelling. refl)) (ignores-one any_name (λ spelling. refl)))

inline-placeless : (x : Token × (Option (Positioned TypeCondition) × (Directives × Set))) → unplaced placeless_selection (inline_of x) ≡ inline_of (without_place x.0, (option_map (unplaced placeless_condition) x.1.0, (placeless_directives x.1.1.0, unplaced placeless_set x.1.1.1)))
inline-placeless (dots, (None, (ds, set))) = refl
inline-placeless (dots, (Some on, (ds, set))) = refl

pub ignores-inline_fragment : {set : Limits → Rel Set} → IgnoresPlaces set (unplaced placeless_set) → IgnoresPlaces (λ c. an_inline_fragment Current c.values (set c)) (unplaced placeless_selection)
ignores-inline_fragment h = ignores-mapped {k = inline_of} inline-placeless (ignores-then (ignores-one (punct "...") (λ spelling. refl)) (ignores-then (ignores-opt ignores-type_condition) (ignores-then (ignores-directives true) h)))

pub ignores-selection : {set : Limits → Rel Set} → IgnoresPlaces set (unplaced placeless_set) → IgnoresPlaces (λ c. a_selection Current c.values (set c)) (unplaced placeless_selection)
ignores-selection h = ignores-either (ignores-field h) (ignores-either ignores-spread (ignores-inline_fragment h))

-- ---- sets

set-placeless : (xs : List (Positioned Selection)) → placeless_set (set_of xs) ≡ set_of (map (unplaced placeless_selection) xs)
set-placeless [] = refl
set-placeless (x ∷ xs) = ap (λ (s : SelectionSet). SelectionSet.selection_and nowhere (placeless_selection x.node) s) (set-placeless xs)

abbrev placed-nowhere : SelectionSet → Positioned SelectionSet
placed-nowhere s = record { pos = nowhere; node = s }

pub ignores-a_set : {selection : Limits → Rel (Positioned Selection)} → IgnoresPlaces selection (unplaced placeless_selection) → IgnoresPlaces (λ c. a_set (selection c)) (unplaced placeless_set)
ignores-a_set h = ignores-mapped (λ x. ap (λ (s : SelectionSet). placed-nowhere s) (set-placeless x.1.0)) (ignores-then (ignores-one (punct "{") (λ spelling. refl)) (ignores-then (ignores-plus h) (ignores-one (punct "}") (λ spelling. refl))))

ignores-at : (n : ℕ) → IgnoresPlaces (λ c. selection_set Current c.values n) (unplaced placeless_set)
ignores-at zero = ignores-a_set (ignores-selection {set = λ c. never} ignores-never)
ignores-at (suc n) = ignores-a_set (ignores-selection {set = λ c. selection_set Current c.values n} (ignores-at n))

pub ignores-sets : IgnoresPlaces sets (unplaced placeless_set)
ignores-sets = record { by = λ c. (ignores-at c.selections).by c; fixed = λ c. (ignores-at c.selections).fixed c }
