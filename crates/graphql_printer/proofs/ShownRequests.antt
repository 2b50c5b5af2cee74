-- Requests are read again from what is shown of them.
use Rattle.std.proofs.Common.{◌≡◌, ℕ, zero, suc, Bool, true, false, ◌&&◌, if◌then◌else◌, inl, inr, Option, Some, None, List, [], ◌∷◌, ◌++◌, map, option_map, refl, sym, ap, subst}
use Rattle.std.specs.List.{flat_map}
use Rattle.std.specs.Prelude.{is_none}
use Rattle.graphql_tokens.specs.declared.pos.Positioned.{Positioned}
use Rattle.graphql_tokens.specs.tokens.Edition.{Current}
use Rattle.graphql_tokens.specs.tokens.Token.{Bare, Token}
use Rattle.graphql_syntax.specs.declared.types.OperationType.{OperationType}
use Rattle.graphql_syntax.specs.declared.types.OperationType.TheVariants.{Query, Mutation, Subscription}
use Rattle.graphql_syntax.specs.trees.Parts.{Name, Arguments, Directives}
use Rattle.graphql_trees.specs.trees.Request.{VariableDefinition, TypeCondition, Selection, SelectionSet, selection_and, set_of}
use Rattle.graphql_reading.specs.grammar.Fronts.{without_place}
use Rattle.graphql_reading.specs.grammar.Limits.{Limits}
use Rattle.graphql_reading.specs.grammar.Places.{at, nowhere}
use Rattle.graphql_reading.specs.grammar.Relations.{Rel, one, never, ◌⨾◌, ◌∪◌, mapped, plus, opt, given}
use Rattle.graphql_reading.specs.grammar.Tests.{any_name}
use Rattle.graphql_reading.proofs.Optional.{plus-star}
use Rattle.graphql_grammar.specs.grammar.Arguments.{a_directive, directives, a_default}
use Rattle.graphql_grammar.specs.grammar.Operations.{operation_type}
use Rattle.graphql_grammar.specs.grammar.Placeless.{unplaced, bare_node, placeless_argument, placeless_directives}
use Rattle.graphql_grammar.specs.grammar.Values.{Value}
use Rattle.graphql_requests.specs.grammar.Placeless.{placeless_variable, placeless_condition, placeless_selection, placeless_set, placeless_definition}
use Rattle.graphql_requests.specs.grammar.Request.{Definition, operation, fragment, own_set, query_of, a_short_operation, name_in, operation_of, a_full_operation, fragment_of, a_fragment, a_definition}
use Rattle.graphql_requests.specs.grammar.Selections.{Set, alias_name, aliased, alias_of, field_of, a_field, spread_of, a_spread, condition_of, a_type_condition, inline_of, an_inline_fragment, a_selection, selection_set_of, a_set, selection_set}
use Rattle.graphql_requests.specs.grammar.Variables.{default_after, default_and_directives, variable_definition_of, a_variable_definition, variable_definitions}
use Rattle.graphql_printer.specs.inner.Shown.{sign, word, shown_node, shown_part, shown_between, shown_arguments, shown_directives, shown_default}
use Rattle.graphql_printer.specs.inner.ShownRequests.{shown_variable, shown_variables, shown_alias, shown_condition, shown_selection, shown_selections, shown_set, is_query, has_none, is_short, shown_full, shown_fragment, shown_definition}
use Rattle.graphql_printer.proofs.Reprints.{AreSpelled, Again, Reprints, again-then, again-within, parts_spelled, reprints-punct, reprints-keyword, reprints-name, reprints-never, reprints-then, reprints-mapped, reprints-shown, reprints-either, reprints-first, reprints-opt, reprints-enclosed, reprints-maybe_listed}
use Rattle.graphql_printer.proofs.ShownParts.{reprints-type, reprints-maybe_arguments, reprints-directives, reprints-default, shown_kind, without_keyword_place, reprints-operation_type}
use Rattle.graphql_printer.proofs.ShownValues.{reprints-name_but}

-- ---- variables

abbrev Both : Type 0
Both = Option Value × Directives

abbrev placeless_both : Both → Both
placeless_both x = (option_map bare_node x.0, placeless_directives x.1)

abbrev shown_both : Both → List Bare
shown_both x = shown_part shown_default x.0 ++ shown_directives x.1

-- a default value after directives is shown before them
reprints-default_and_directives : Reprints (λ c. default_and_directives Current c.values) placeless_both shown_both
reprints-default_and_directives = reprints-first (reprints-then (reprints-opt reprints-default) (reprints-directives true)) turned
  where
    turned : (c : Limits) (x : List Token) (a : Both) → mapped default_after (plus (a_directive Current true c.values) ⨾ a_default Current c.values) x a → AreSpelled x
        → Again (opt (a_default Current c.values) ⨾ directives Current true c.values) placeless_both (shown_both a) a
    turned c x a m s =
        let spelled = parts_spelled x m.holds.front m.holds.back m.holds.joined s in
        let many = plus-star (a_directive Current true c.values) m.holds.front m.value.0 m.holds.first in
        subst (λ (y : Both). Again (opt (a_default Current c.values) ⨾ directives Current true c.values) placeless_both (shown_both y) y) (sym m.is)
        (again-then ((reprints-opt reprints-default).by c m.holds.back (Some m.value.1) m.holds.second spelled.1) ((reprints-directives true).by c m.holds.front m.value.0 many spelled.0))

reprints-variable_definition : Reprints (λ c. a_variable_definition Current c.values c.types) (unplaced placeless_variable) (shown_node shown_variable)
reprints-variable_definition =
    reprints-mapped {k = variable_definition_of} (shown_node shown_variable) (λ x. refl) (λ x. refl)
    (reprints-then (reprints-punct "$") (reprints-then reprints-name (reprints-then (reprints-punct ":") (reprints-then reprints-type reprints-default_and_directives))))

-- ---- fields

abbrev shown_aliased : Option Token × Token → List Bare
shown_aliased x = shown_part shown_alias (alias_of x.0) ++ word x.1.bare.spelling ∷ []

abbrev without_places_of : Option Token × Token → Option Token × Token
without_places_of x = (option_map without_place x.0, without_place x.1)

reprints-aliased : Reprints (λ c. aliased) without_places_of shown_aliased
reprints-aliased =
    reprints-then
    (reprints-shown (λ alias. shown_part shown_alias (alias_of alias)) (λ c x alias m. same alias)
    (reprints-opt (reprints-mapped {k = alias_name} (λ t. word t.bare.spelling ∷ sign ":" ∷ []) (λ x. refl) (λ x. refl) (reprints-then reprints-name (reprints-punct ":")))))
    reprints-name
  where
    same : (alias : Option Token) → shown_part (λ (t : Token). word t.bare.spelling ∷ sign ":" ∷ []) alias ≡ shown_part shown_alias (alias_of alias)
    same None = refl
    same (Some t) = refl

abbrev field_parts : Type 0
field_parts = (Option Token × Token) × (Option Arguments × (Directives × Option Set))

abbrev placeless_parts : field_parts → field_parts
placeless_parts x = (without_places_of x.0, (option_map (map placeless_argument) x.1.0, (placeless_directives x.1.1.0, option_map (unplaced placeless_set) x.1.1.1)))

field-placeless : (x : field_parts) → unplaced placeless_selection (field_of x) ≡ field_of (placeless_parts x)
field-placeless ((None, name), (None, (ds, None))) = refl
field-placeless ((None, name), (None, (ds, Some set))) = refl
field-placeless ((None, name), (Some arguments, (ds, None))) = refl
field-placeless ((None, name), (Some arguments, (ds, Some set))) = refl
field-placeless ((Some alias, name), (None, (ds, None))) = refl
field-placeless ((Some alias, name), (None, (ds, Some set))) = refl
field-placeless ((Some alias, name), (Some arguments, (ds, None))) = refl
field-placeless ((Some alias, name), (Some arguments, (ds, Some set))) = refl

abbrev shown_field_parts : field_parts → List Bare
shown_field_parts x = shown_aliased x.0 ++ (shown_arguments (given x.1.0) ++ (shown_directives x.1.1.0 ++ shown_part (shown_node shown_set) x.1.1.1))

field-shown : (x : field_parts) → shown_field_parts x ≡ (shown_node shown_selection) (field_of x)
field-shown ((None, name), (arguments, (ds, None))) = refl
field-shown ((None, name), (arguments, (ds, Some set))) = refl
field-shown ((Some alias, name), (arguments, (ds, None))) = refl
field-shown ((Some alias, name), (arguments, (ds, Some set))) = refl

reprints-field : {set : Limits → Rel Set} → Reprints set (unplaced placeless_set) (shown_node shown_set) → Reprints (λ c. a_field Current c.values (set c)) (unplaced placeless_selection) (shown_node shown_selection)
reprints-field h =
    reprints-mapped {k = field_of} (shown_node shown_selection) field-placeless field-shown
    (reprints-then reprints-aliased (reprints-then (reprints-maybe_arguments true) (reprints-then (reprints-directives true) (reprints-opt h))))

-- ---- spreads and inline fragments

reprints-spread : Reprints (λ c. a_spread Current c.values) (unplaced placeless_selection) (shown_node shown_selection)
reprints-spread = reprints-mapped {k = spread_of} (shown_node shown_selection) (λ x. refl) (λ x. refl) (reprints-then (reprints-punct "...") (reprints-then (reprints-name_but ("on" ∷ [])) (reprints-directives true)))

reprints-type_condition : Reprints (λ c. a_type_condition) (unplaced placeless_condition) (shown_node shown_condition)
reprints-type_condition = reprints-mapped {k = condition_of} (shown_node shown_condition) (λ x. refl) (λ x. refl) (reprints-then (reprints-keyword "on") reprints-name)

inline-placeless : (x : Token × (Option (Positioned TypeCondition) × (Directives × Set))) → unplaced placeless_selection (inline_of x) ≡ inline_of (without_place x.0, (option_map (unplaced placeless_condition) x.1.0, (placeless_directives x.1.1.0, unplaced placeless_set x.1.1.1)))
inline-placeless (dots, (None, (ds, set))) = refl
inline-placeless (dots, (Some on, (ds, set))) = refl

reprints-inline_fragment : {set : Limits → Rel Set} → Reprints set (unplaced placeless_set) (shown_node shown_set) → Reprints (λ c. an_inline_fragment Current c.values (set c)) (unplaced placeless_selection) (shown_node shown_selection)
reprints-inline_fragment h =
    reprints-mapped {k = inline_of} (shown_node shown_selection) inline-placeless (λ x. refl)
    (reprints-then (reprints-punct "...") (reprints-then (reprints-opt reprints-type_condition) (reprints-then (reprints-directives true) h)))

reprints-selection : {set : Limits → Rel Set} → Reprints set (unplaced placeless_set) (shown_node shown_set) → Reprints (λ c. a_selection Current c.values (set c)) (unplaced placeless_selection) (shown_node shown_selection)
reprints-selection h = reprints-either (reprints-field h) (reprints-either reprints-spread (reprints-inline_fragment h))

-- ---- sets

set-placeless : (xs : List (Positioned Selection)) → placeless_set (set_of xs) ≡ set_of (map (unplaced placeless_selection) xs)
set-placeless [] = refl
set-placeless (x ∷ xs) = ap (λ (s : SelectionSet). selection_and nowhere (placeless_selection x.node) s) (set-placeless xs)

pub selections-shown : (xs : List (Positioned Selection)) → flat_map (shown_node shown_selection) xs ≡ shown_selections (set_of xs)
selections-shown [] = refl
selections-shown (x ∷ xs) = ap (λ (l : List Bare). (shown_node shown_selection) x ++ l) (selections-shown xs)

set-shown : (xs : List (Positioned Selection)) → shown_between "{" "}" (shown_node shown_selection) xs ≡ shown_set (set_of xs)
set-shown [] = refl
set-shown (x ∷ xs) = ap (λ (l : List Bare). sign "{" ∷ (l ++ sign "}" ∷ [])) (selections-shown (x ∷ xs))

abbrev placed_nowhere : SelectionSet → Set
placed_nowhere s = record { pos = nowhere; node = s }

reprints-a_set : {selection : Limits → Rel (Positioned Selection)} → Reprints selection (unplaced placeless_selection) (shown_node shown_selection) → Reprints (λ c. a_set (selection c)) (unplaced placeless_set) (shown_node shown_set)
reprints-a_set h =
    reprints-mapped {k = selection_set_of} (shown_node shown_set) (λ x. ap placed_nowhere (set-placeless x.1.0)) (λ x. set-shown x.1.0) (reprints-enclosed "{" "}" h)

reprints-at : (n : ℕ) → Reprints (λ c. selection_set Current c.values n) (unplaced placeless_set) (shown_node shown_set)
reprints-at zero = reprints-a_set (reprints-selection {set = λ c. never} reprints-never)
reprints-at (suc n) = reprints-a_set (reprints-selection {set = λ c. selection_set Current c.values n} (reprints-at n))

reprints-own_set : Reprints (own_set Current) (unplaced placeless_set) (shown_node shown_set)
reprints-own_set = record { by = λ c. (reprints-at c.selections).by c }

-- ---- definitions

reprints-short_operation : Reprints (a_short_operation Current) placeless_definition shown_definition
reprints-short_operation = reprints-mapped {k = query_of} shown_definition (λ set. refl) (λ set. refl) reprints-own_set

reprints-fragment : Reprints (a_fragment Current) placeless_definition shown_definition
reprints-fragment =
    reprints-mapped {k = fragment_of} shown_definition (λ x. refl) (λ x. refl)
    (reprints-then (reprints-keyword "fragment") (reprints-then (reprints-name_but ("on" ∷ [])) (reprints-then reprints-type_condition (reprints-then (reprints-directives true) reprints-own_set))))

abbrev operation_parts : Type 0
operation_parts = (Token × OperationType) × (Option Token × (Option (List (Positioned VariableDefinition)) × (Directives × Set)))

operation-placeless : (x : operation_parts) → placeless_definition (operation_of x) ≡ operation_of (without_keyword_place x.0, (option_map without_place x.1.0, (option_map (map (unplaced placeless_variable)) x.1.1.0, (placeless_directives x.1.1.1.0, unplaced placeless_set x.1.1.1.1))))
operation-placeless (ty, (None, (None, more))) = refl
operation-placeless (ty, (None, (Some variables, more))) = refl
operation-placeless (ty, (Some name, (None, more))) = refl
operation-placeless (ty, (Some name, (Some variables, more))) = refl

abbrev shown_in_full : Definition → List Bare
shown_in_full (operation name o) = shown_full name o.node
shown_in_full (fragment name f) = shown_fragment name f.node

abbrev shown_operation_parts : operation_parts → List Bare
shown_operation_parts x = shown_kind x.0 ++ (shown_part (λ (t : Token). word t.bare.spelling ∷ []) x.1.0 ++ (shown_variables (given x.1.1.0) ++ (shown_directives x.1.1.1.0 ++ (shown_node shown_set) x.1.1.1.1)))

operation-shown : (x : operation_parts) → shown_operation_parts x ≡ shown_in_full (operation_of x)
operation-shown (ty, (None, more)) = refl
operation-shown (ty, (Some name, more)) = refl

reprints-in_full : Reprints (a_full_operation Current) placeless_definition shown_in_full
reprints-in_full =
    reprints-mapped {k = operation_of} shown_in_full operation-placeless operation-shown
    (reprints-then reprints-operation_type (reprints-then (reprints-opt reprints-name) (reprints-then (reprints-maybe_listed "(" ")" reprints-variable_definition) (reprints-then (reprints-directives true) reprints-own_set))))

-- ---- the short form

all_four : (a b c d : Bool) → (a && b && c && d) ≡ true → (a ≡ true) × (b ≡ true) × (c ≡ true) × (d ≡ true)
all_four true true true true e = (refl, refl, refl, refl)
all_four true true true false e = absurd cc
all_four true true false d e = absurd cc
all_four true false c d e = absurd cc
all_four false b c d e = absurd cc

query-is : (ty : OperationType) → is_query ty ≡ true → ty ≡ Query
query-is Query e = refl
query-is Mutation e = absurd cc
query-is Subscription e = absurd cc

none-is : {A : Type 0} (part : Option A) → is_none part ≡ true → part ≡ None
none-is None e = refl
none-is (Some part) e = absurd cc

empty-is : {A : Type 0} (list : List A) → has_none list ≡ true → list ≡ []
empty-is [] e = refl
empty-is (a ∷ list) e = absurd cc

abbrev queries : Limits → Rel Definition
queries c = a_short_operation Current c ∪ a_full_operation Current c

-- where an operation is short, its set is an operation too, and means the same
again-short : (c : Limits) (ty : OperationType) (name : Option Name) (variables : List (Positioned VariableDefinition)) (ds : Directives) (set : Set) (word_token : Token) → ty ≡ Query → name ≡ None → variables ≡ [] → ds ≡ []
    → Again (own_set Current c) (unplaced placeless_set) ((shown_node shown_set) set) set
    → Again (queries c) placeless_definition ((shown_node shown_set) set) (operation name (at word_token (record { ty = ty; variable_definitions = variables; directives = ds; selection_set = set })))
again-short c ty name variables ds set t e₁ e₂ e₃ e₄ h =
    let plain : Definition = operation None (at t (record { ty = Query; variable_definitions = []; directives = []; selection_set = set })) in
    let is : plain ≡ operation name (at t (record { ty = ty; variable_definitions = variables; directives = ds; selection_set = set })) =
    λ i. operation (sym e₂ i) (at t (record { ty = sym e₁ i; variable_definitions = sym e₃ i; directives = sym e₄ i; selection_set = set })) in
    subst (λ (d : Definition). Again (queries c) placeless_definition ((shown_node shown_set) set) d) is (record {
      tokens = h.tokens;
      are = h.are;
      spelled = h.spelled;
      tree = query_of h.tree;
      holds = inl (record { value = h.tree; holds = h.holds; is = refl });
      same = ap (λ (s : Set). operation None (at (without_place t) (record { ty = Query; variable_definitions = []; directives = []; selection_set = s }))) h.same;
    })

reprints-queries : Reprints queries placeless_definition shown_definition
reprints-queries = record { by = by }
  where
    full : (c : Limits) (x : List Token) (v : operation_parts) → a_full_operation Current c x (operation_of v)
        → (operation_type ⨾ opt (one any_name) ⨾ opt (variable_definitions Current c.values c.types) ⨾ directives Current true c.values ⨾ own_set Current c) x v → AreSpelled x
        → (short : Bool) → is_short (name_in v.1.0) (record { ty = v.0.1; variable_definitions = given v.1.1.0; directives = v.1.1.1.0; selection_set = v.1.1.1.1 }) ≡ short
        → Again (queries c) placeless_definition (if short then (shown_node shown_set) v.1.1.1.1 else shown_in_full (operation_of v)) (operation_of v)
    full c x v m n s false e = again-within (λ y b k. inr k) (reprints-in_full.by c x (operation_of v) m s)
    full c x v m n s true e =
        let four = all_four (is_query v.0.1) (is_none (name_in v.1.0)) (has_none (given v.1.1.0)) (has_none v.1.1.1.0) e in
        let after_type = parts_spelled x n.front n.back n.joined s in
        let after_name = parts_spelled n.back n.second.front n.second.back n.second.joined after_type.1 in
        let after_variables = parts_spelled n.second.back n.second.second.front n.second.second.back n.second.second.joined after_name.1 in
        let last = n.second.second.second in
        let after_directives = parts_spelled n.second.second.back last.front last.back last.joined after_variables.1 in
        again-short c v.0.1 (name_in v.1.0) (given v.1.1.0) v.1.1.1.0 v.1.1.1.1 v.0.0 (query-is v.0.1 four.0) (none-is (name_in v.1.0) four.1) (empty-is (given v.1.1.0) four.2) (empty-is v.1.1.1.0 four.3)
        (reprints-own_set.by c last.back v.1.1.1.1 last.second after_directives.1)

    by : (c : Limits) (x : List Token) (d : Definition) → queries c x d → AreSpelled x → Again (queries c) placeless_definition (shown_definition d) d
    by c x d (inl m) s = again-within (λ y b k. inl k) (reprints-short_operation.by c x d m s)
    by c x d (inr m) s =
        subst (λ (y : Definition). Again (queries c) placeless_definition (shown_definition y) y) (sym m.is)
        (full c x m.value (record { value = m.value; holds = m.holds; is = refl }) m.holds s (is_short (name_in m.value.1.0) (record { ty = m.value.0.1; variable_definitions = given m.value.1.1.0; directives = m.value.1.1.1.0; selection_set = m.value.1.1.1.1 })) refl)

among-all : (c : Limits) (x : List Token) (d : Definition) → queries c x d → a_definition Current c x d
among-all c x d (inl m) = inl m
among-all c x d (inr m) = inr (inl m)

pub reprints-definition : Reprints (a_definition Current) placeless_definition shown_definition
reprints-definition = record { by = by }
  where
    by : (c : Limits) (x : List Token) (d : Definition) → a_definition Current c x d → AreSpelled x → Again (a_definition Current c) placeless_definition (shown_definition d) d
    by c x d (inl m) s = again-within (among-all c) (reprints-queries.by c x d (inl m) s)
    by c x d (inr (inl m)) s = again-within (among-all c) (reprints-queries.by c x d (inr m) s)
    by c x d (inr (inr m)) s = again-within (λ y e k. inr (inr k)) (reprints-fragment.by c x d m s)
