-- Operations, fragments and documents are read exactly, have phrases, and don't look at places.
use Rattle.std.proofs.Common.{◌≡◌, true, IsTrue, Option, Some, None, List, [], ◌∷◌, map, refl, option_map}
use Rattle.graphql_tokens.specs.declared.pos.Positioned.{Positioned}
use Rattle.graphql_syntax.specs.declared.types.OperationType.{OperationType}
use Rattle.graphql_tokens.specs.tokens.Edition.{Current}
use Rattle.graphql_tokens.specs.tokens.Token.{Token}
use Rattle.graphql_syntax.specs.trees.Parts.{Directives}
use Rattle.graphql_trees.specs.trees.Request.{VariableDefinition}
use Rattle.graphql_reading.specs.grammar.Tests.{Test, punct, keyword, any_name, the_end}
use Rattle.graphql_reading.specs.grammar.Limits.{Limits}
use Rattle.graphql_reading.specs.grammar.Relations.{Rel, one, ◌⨾◌, ◌∪◌, opt}
use Rattle.graphql_grammar.specs.grammar.Arguments.{a_directive, directives}
use Rattle.graphql_grammar.specs.grammar.Operations.{operation_type}
use Rattle.graphql_requests.specs.grammar.Variables.{variable_definitions}
use Rattle.graphql_reading.specs.grammar.Fronts.{without_place}
use Rattle.graphql_grammar.specs.grammar.Placeless.{unplaced, placeless_directives}
use Rattle.graphql_requests.specs.grammar.Placeless.{placeless_variable, placeless_set, placeless_definition, placeless_definitions}
use Rattle.graphql_requests.specs.grammar.Selections.{Set, fragment_name, a_type_condition}
use Rattle.graphql_requests.specs.grammar.Request.{own_set, a_short_operation, operation_of, a_full_operation, fragment_of, a_fragment, a_definition, definitions}
use Rattle.graphql_reading.specs.reading.Outcome.{then_at, choose_at, opt_at}
use Rattle.graphql_grammar.specs.reading.Arguments.{directives_at}
use Rattle.graphql_requests.specs.reading.Variables.{variable_definitions_at}
use Rattle.graphql_requests.specs.reading.Request.{own_set_at, short_operation_at, full_operation_at, fragment_at, definition_first, definition_at, definitions_at}
use Rattle.graphql_reading.proofs.Theory.{IsSubset, outside, anything}
use Rattle.graphql_reading.proofs.TokenTests.{word_of, itself, punct-within, keyword-within, the_end-within}
use Rattle.graphql_reading.proofs.ReadsExactly.{ReadsExactly, HasPhrase, BeginsWith, exact-keyword, exact-name, exact-name_but, exact-mapped, exact-next, exact-then-some, exact-choose, exact-same, exact-plus, begins-one, begins-within, begins-mapped, begins-then, begins-either, has-token, has-pair, has-map, has-plus, has-first}
use Rattle.graphql_reading.proofs.Extra.{has-opt, exact-opt, begins-opt, begins-star, either-way}
use Rattle.graphql_reading.proofs.IgnoresPlaces.{IgnoresPlaces, ignores-one, ignores-then, ignores-mapped, ignores-either, ignores-plus, ignores-opt}
use Rattle.graphql_reading.proofs.Loop.{Takes, takes-one}
use Rattle.graphql_grammar.specs.reading.ReadBy.{IsReadBy}
use Rattle.graphql_grammar.proofs.Languages.{IsRead, is-read-by}
use Rattle.graphql_requests.specs.grammar.Requests.{requests}
use Rattle.graphql_requests.proofs.BreachPlaces.{requests-judge-alike}
use Rattle.graphql_requests.proofs.FormerRequests.{includes-definitions}
use Rattle.graphql_grammar.proofs.ArgumentProductions.{exact-directives, begins-directive, has-directives, ignores-directives}
use Rattle.graphql_grammar.proofs.OperationKinds.{exact-operation_type, begins-operation_type, without-keyword-place, ignores-operation_type}
use Rattle.graphql_requests.proofs.VariableProductions.{exact-variable_definitions, begins-variable_definitions, ignores-variable_definitions}
use Rattle.graphql_requests.proofs.SelectionProductions.{exact-sets, begins-sets, has-sets, exact-type_condition, has-type_condition, fragment-sample}
use Rattle.graphql_requests.proofs.SelectionPlaces.{ignores-sets, ignores-type_condition}

-- ---- the set of a definition

pub exact-own_set : {b : Limits} {f : Test} → ReadsExactly (own_set Current) b f (own_set_at b)
exact-own_set {b} = exact-sets b.selections b refl

pub begins-own_set : BeginsWith (own_set Current) (punct "{")
begins-own_set = begins-sets

pub has-own_set : HasPhrase (own_set Current)
has-own_set = has-sets

pub ignores-own_set : IgnoresPlaces (own_set Current) (unplaced placeless_set)
ignores-own_set = ignores-sets

-- directives and the set
abbrev with-set : Limits → Rel (Directives × Set)
with-set c = directives Current true c.values ⨾ own_set Current c

exact-with-set : {b : Limits} {f : Test} → ReadsExactly with-set b f (then_at (directives_at true b.values) (own_set_at b))
exact-with-set = exact-then-some begins-own_set has-own_set (exact-directives true (punct-within "{" refl) (punct-within "{" refl)) exact-own_set

begins-with-set : {g : Test} → IsSubset (punct "@") g → IsSubset (punct "{") g → BeginsWith with-set g
begins-with-set at brace = begins-star {p = λ c. a_directive Current true c.values} {q = (own_set Current)} (begins-within at (begins-directive true)) (begins-within brace begins-own_set)

has-with-set : HasPhrase with-set
has-with-set = has-pair (has-directives true) has-own_set

-- ---- operations

pub exact-short_operation : {b : Limits} {f : Test} → ReadsExactly (a_short_operation Current) b f (short_operation_at b)
exact-short_operation = exact-mapped exact-own_set

pub begins-short_operation : BeginsWith (a_short_operation Current) (punct "{")
begins-short_operation = begins-mapped begins-own_set

pub has-short_operation : HasPhrase (a_short_operation Current)
has-short_operation = has-map has-own_set

pub ignores-short_operation : IgnoresPlaces (a_short_operation Current) placeless_definition
ignores-short_operation = ignores-mapped (λ set. refl) ignores-own_set

-- variable definitions, where there are any, and what is after them
abbrev with-variables : Limits → Rel (Option (List (Positioned VariableDefinition)) × (Directives × Set))
with-variables c = opt (variable_definitions Current c.values c.types) ⨾ with-set c

exact-with-variables : {b : Limits} {f : Test} → ReadsExactly with-variables b f (then_at (opt_at (punct "(") (variable_definitions_at b.values b.types)) (then_at (directives_at true b.values) (own_set_at b)))
exact-with-variables = exact-then-some {g = outside (punct "(")} (begins-with-set (punct-within "@" refl) (punct-within "{" refl)) has-with-set (exact-opt begins-variable_definitions itself exact-variable_definitions) exact-with-set

begins-with-variables : {g : Test} → IsSubset (punct "(") g → IsSubset (punct "@") g → IsSubset (punct "{") g → BeginsWith with-variables g
begins-with-variables paren at brace = begins-opt {q = with-set} (begins-within paren begins-variable_definitions) (begins-with-set at brace)

has-with-variables : HasPhrase with-variables
has-with-variables = has-pair (has-opt {p = λ c. variable_definitions Current c.values c.types}) has-with-set

pub exact-full_operation : {b : Limits} {f : Test} → ReadsExactly (a_full_operation Current) b f (full_operation_at b)
exact-full_operation =
    exact-mapped (exact-next (has-pair (has-opt {p = λ c. one any_name}) has-with-variables) exact-operation_type
    (exact-then-some {g = outside any_name} (begins-with-variables (punct-within "(" refl) (punct-within "@" refl) (punct-within "{" refl)) has-with-variables
    (exact-opt begins-one itself exact-name)
    exact-with-variables))

pub begins-full_operation : {g : Test} → IsTrue (g (word_of "query")) → IsTrue (g (word_of "mutation")) → IsTrue (g (word_of "subscription")) → BeginsWith (a_full_operation Current) g
begins-full_operation query mutation subscription = begins-mapped {p = λ c. operation_type ⨾ opt (one any_name) ⨾ with-variables c} (begins-then (begins-operation_type query mutation subscription))

abbrev operation-parts : Type 0
operation-parts = (Token × OperationType) × (Option Token × (Option (List (Positioned VariableDefinition)) × (Directives × Set)))

operation-placeless : (x : operation-parts) → placeless_definition (operation_of x) ≡ operation_of (without-keyword-place x.0, (option_map without_place x.1.0, (option_map (map (unplaced placeless_variable)) x.1.1.0, (placeless_directives x.1.1.1.0, unplaced placeless_set x.1.1.1.1))))
operation-placeless (ty, (None, (None, more))) = refl
operation-placeless (ty, (None, (Some variables, more))) = refl
operation-placeless (ty, (Some name, (None, more))) = refl
operation-placeless (ty, (Some name, (Some variables, more))) = refl

pub ignores-full_operation : IgnoresPlaces (a_full_operation Current) placeless_definition
ignores-full_operation = ignores-mapped {k = operation_of} operation-placeless (ignores-then ignores-operation_type (ignores-then (ignores-opt (ignores-one any_name (λ spelling. refl))) (ignores-then (ignores-opt ignores-variable_definitions) (ignores-then (ignores-directives true) ignores-own_set))))

-- ---- fragments

pub exact-fragment : {b : Limits} {f : Test} → ReadsExactly (a_fragment Current) b f (fragment_at b)
exact-fragment =
    exact-mapped (exact-next (has-pair (has-token fragment-sample) (has-pair has-type_condition has-with-set)) (exact-keyword "fragment")
    (exact-next (has-pair has-type_condition has-with-set) (exact-name_but ("on" ∷ []))
    (exact-next has-with-set exact-type_condition exact-with-set)))

pub begins-fragment : BeginsWith (a_fragment Current) (keyword "fragment")
begins-fragment = begins-mapped {p = λ c. one (keyword "fragment") ⨾ one fragment_name ⨾ a_type_condition ⨾ with-set c} (begins-then begins-one)

pub ignores-fragment : IgnoresPlaces (a_fragment Current) placeless_definition
ignores-fragment = ignores-mapped {k = fragment_of} (λ x. refl) (ignores-then (ignores-one (keyword "fragment") (λ spelling. refl)) (ignores-then (ignores-one fragment_name (λ spelling. refl)) (ignores-then ignores-type_condition (ignores-then (ignores-directives true) ignores-own_set))))

-- ---- definitions

-- what begins with a word
exact-worded : {b : Limits} {f : Test} → ReadsExactly (λ c. a_full_operation Current c ∪ a_fragment Current c) b f (choose_at (keyword "fragment") (fragment_at b) (full_operation_at b))
exact-worded = exact-same (λ c. either-way (a_fragment Current c) (a_full_operation Current c)) (exact-choose begins-fragment (begins-full_operation refl refl refl) exact-fragment exact-full_operation)

begins-worded : {g : Test} → IsTrue (g (word_of "query")) → IsTrue (g (word_of "mutation")) → IsTrue (g (word_of "subscription")) → IsTrue (g (word_of "fragment")) → BeginsWith (λ c. a_full_operation Current c ∪ a_fragment Current c) g
begins-worded query mutation subscription fragment = begins-either (begins-full_operation query mutation subscription) (begins-within (keyword-within "fragment" fragment) begins-fragment)

pub exact-definition : {b : Limits} {f : Test} → ReadsExactly (a_definition Current) b f (definition_at b)
exact-definition = exact-choose begins-short_operation (begins-worded refl refl refl refl) exact-short_operation exact-worded

pub begins-definition : BeginsWith (a_definition Current) definition_first
begins-definition = begins-either {p = (a_short_operation Current)} (begins-within (punct-within "{" refl) begins-short_operation) (begins-worded refl refl refl refl)

pub has-definition : HasPhrase (a_definition Current)
has-definition = has-first {q = λ c. a_full_operation Current c ∪ a_fragment Current c} has-short_operation

pub ignores-definition : IgnoresPlaces (a_definition Current) placeless_definition
ignores-definition = ignores-either ignores-short_operation (ignores-either ignores-full_operation ignores-fragment)

pub takes-definition : (limits : Limits) → Takes (definition_at limits)
takes-definition limits = takes-one {b = limits} {f = anything} exact-definition begins-definition

-- what is no definition ends the list
pub exact-definitions : {b : Limits} {f : Test} → IsSubset f (outside definition_first) → ReadsExactly (definitions Current) b f (definitions_at b)
exact-definitions away = exact-plus begins-definition away exact-definition

pub has-definitions : HasPhrase (definitions Current)
has-definitions = has-plus has-definition

pub ignores-definitions : IgnoresPlaces (definitions Current) placeless_definitions
ignores-definitions = ignores-plus ignores-definition

-- the end of the text is none
pub exact-request : {b : Limits} → ReadsExactly (definitions Current) b the_end (definitions_at b)
exact-request = exact-definitions (the_end-within (λ w. refl))

pub requests-are-read : IsRead requests definitions_at
requests-are-read = record { has_phrase = has-definitions; ignores_places = ignores-definitions; reads_exactly = λ b. exact-request {b = b}; includes = includes-definitions; judges = requests-judge-alike }

pub requests-read-by : IsReadBy requests definitions_at
requests-read-by = is-read-by requests definitions_at requests-are-read
