-- Definitions, extensions and schema files are read exactly, have phrases, and don't look at places.
use Rattle.std.proofs.Common.{◌≡◌, Bool, ◌||◌, IsTrue, ◌↔◌, inl, inr, Option, Some, None, List, option_map, refl, ap, ◌∙◌}
use Rattle.graphql_tokens.specs.declared.pos.Positioned.{Positioned}
use Rattle.graphql_tokens.specs.tokens.Edition.{Current}
use Rattle.graphql_tokens.specs.tokens.Token.{Token}
use Rattle.graphql_trees.specs.trees.Schema.{Description, InputValues, DirectiveDefinition}
use Rattle.graphql_reading.specs.grammar.Fronts.{without_place}
use Rattle.graphql_reading.specs.grammar.Limits.{Limits}
use Rattle.graphql_reading.specs.grammar.Relations.{Rel, one, ◌⨾◌, ◌∪◌, mapped, opt, given}
use Rattle.graphql_reading.specs.grammar.Tests.{Test, keyword, any_name, the_end}
use Rattle.graphql_reading.proofs.Theory.{IsSubset, outside}
use Rattle.graphql_reading.proofs.TokenTests.{word_of, keyword-within, the_end-within, within-either}
use Rattle.graphql_reading.proofs.ReadsExactly.{ReadsExactly, HasPhrase, BeginsWith, exact-keyword, exact-mapped, exact-next, exact-then-some, exact-choose, exact-same, begins-one, begins-within, begins-same, begins-mapped, begins-then, begins-either, has-pair, has-map, has-plus, has-first}
use Rattle.graphql_reading.proofs.Extra.{exact-plus-ahead, begins-opt, both-ways, taken-in, spread-out, either-same}
use Rattle.graphql_reading.proofs.IgnoresPlaces.{IgnoresPlaces, ignores-one, ignores-then, ignores-mapped, ignores-either, ignores-plus, map-given}
use Rattle.graphql_reading.proofs.Loop.{Takes, takes-one}
use Rattle.graphql_grammar.specs.grammar.Placeless.{unplaced}
use Rattle.graphql_grammar.proofs.Languages.{IsRead, is-read-by}
use Rattle.graphql_grammar.specs.reading.ReadBy.{IsReadBy}
use Rattle.graphql_schemas.specs.grammar.Descriptions.{a_description, described as describes}
use Rattle.graphql_schemas.specs.grammar.Directives.{is_there, directive_definition_of, a_directive_definition}
use Rattle.graphql_schemas.specs.grammar.Placeless.{placeless_description, placeless_input_value, placeless_input_values, placeless_type, placeless_schema, placeless_directive_definition, placeless_definition, placeless_definitions}
use Rattle.graphql_schemas.specs.grammar.Schema.{schema_of, a_schema, schema_extension_of, a_schema_extension}
use Rattle.graphql_schemas.specs.grammar.SchemaFile.{Definition, schema, type_def, directive, a_definition, definitions}
use Rattle.graphql_schemas.specs.grammar.Schemas.{schemas}
use Rattle.graphql_schemas.specs.grammar.Types.{type_definition_of, a_type_definition, type_extension_of, a_type_extension, body, extended_body}
use Rattle.graphql_schemas.specs.reading.Descriptions.{is_text}
use Rattle.graphql_schemas.specs.reading.SchemaFile.{Undescribed, of_schema, of_type, of_directive, with_description, undescribed_at, described_at, Extended, a_schema as extends_schema, a_type as extends_type, extension_of, extension_at, definition_first, definition_at, definitions_at}
use Rattle.graphql_schemas.specs.reading.Types.{body_first}
use Rattle.graphql_schemas.proofs.BodyProductions.{exact-body, begins-body, ignores-body, exact-extended_body, begins-extended_body, ignores-extended_body, bodies-within}
use Rattle.graphql_schemas.proofs.DescriptionProductions.{described-nowhere, text-within, name-no-text, begins-description, exact-maybe_description, has-maybe_description, ignores-maybe_description}
use Rattle.graphql_schemas.proofs.DirectiveProductions.{DirectiveRest, placeless-directive-rest, directive-rest, exact-directive-rest, begins-directive-rest, ignores-directive-rest}
use Rattle.graphql_schemas.proofs.BreachPlaces.{schemas-judge-alike}
use Rattle.graphql_schemas.proofs.FormerSchemas.{includes-definitions}
use Rattle.graphql_schemas.proofs.PartProductions.{no-punctuator, past-punctuator, past-parts}
use Rattle.graphql_schemas.proofs.SchemaProductions.{schema-rest, exact-schema-rest, begins-schema-rest, has-schema-rest, ignores-schema-rest, extended-schema, exact-extended-schema, begins-extended-schema, has-extended-schema, ignores-extended-schema}

-- ---- what a definition says after its description

abbrev undescribed : Limits → Rel Undescribed
undescribed c = mapped of_schema (schema-rest c) ∪ mapped of_directive (directive-rest c) ∪ mapped of_type (body Current c)

exact-undescribed : {b : Limits} {f : Test} → IsSubset f no-punctuator → IsSubset f (outside (keyword "implements")) → ReadsExactly undescribed b f (undescribed_at b)
exact-undescribed ends apart =
    exact-choose (begins-mapped begins-schema-rest) (begins-either (begins-mapped (begins-within (keyword-within "directive" refl) begins-directive-rest)) (begins-mapped (begins-within (bodies-within refl refl refl refl refl refl) begins-body)))
    (exact-mapped exact-schema-rest)
    (exact-choose (begins-mapped begins-directive-rest) (begins-mapped (begins-within (bodies-within refl refl refl refl refl refl) begins-body))
    (exact-mapped (exact-directive-rest ends))
    (exact-mapped (exact-body ends apart)))

begins-undescribed : {g : Test} → IsSubset (keyword "schema") g → IsSubset (keyword "directive") g → IsSubset body_first g → BeginsWith undescribed g
begins-undescribed a-schema a-directive a-body =
    begins-either (begins-mapped (begins-within a-schema begins-schema-rest)) (begins-either (begins-mapped (begins-within a-directive begins-directive-rest)) (begins-mapped (begins-within a-body begins-body)))

has-undescribed : HasPhrase undescribed
has-undescribed = has-first {q = λ c. mapped of_directive (directive-rest c) ∪ mapped of_type (body Current c)} (has-map has-schema-rest)

-- ---- definitions

abbrev described : Limits → Rel Definition
described c = mapped schema (a_schema Current c) ∪ mapped directive (a_directive_definition Current c) ∪ mapped type_def (a_type_definition Current c)

-- the three, with the description once
is-described : (c : Limits) (x : List Token) (t : Definition) → mapped with_description (opt (a_description Current) ⨾ undescribed c) x t ↔ described c x t
is-described c x t =
    both-ways (spread-out text (mapped of_schema (schema-rest c)) (mapped of_directive (directive-rest c) ∪ mapped of_type (body Current c)) with_description x t)
    (either-same (mapped with_description (text ⨾ mapped of_schema (schema-rest c))) (mapped schema (a_schema Current c)) (mapped with_description (text ⨾ (mapped of_directive (directive-rest c) ∪ mapped of_type (body Current c)))) (mapped directive (a_directive_definition Current c) ∪ mapped type_def (a_type_definition Current c)) x t
    (taken-in text (schema-rest c) of_schema with_description schema_of schema (λ a b. refl) x t)
    (both-ways (spread-out text (mapped of_directive (directive-rest c)) (mapped of_type (body Current c)) with_description x t)
    (either-same (mapped with_description (text ⨾ mapped of_directive (directive-rest c))) (mapped directive (a_directive_definition Current c)) (mapped with_description (text ⨾ mapped of_type (body Current c))) (mapped type_def (a_type_definition Current c)) x t
    (taken-in text (directive-rest c) of_directive with_description directive_definition_of directive (λ a b. refl) x t)
    (taken-in text (body Current c) of_type with_description type_definition_of type_def (λ a b. refl) x t))))
  where
    text : Rel Description
    text = opt (a_description Current)

exact-described : {b : Limits} {f : Test} → IsSubset f no-punctuator → IsSubset f (outside (keyword "implements")) → ReadsExactly described b f (described_at b)
exact-described ends apart =
    exact-same is-described (exact-mapped (exact-then-some {g = any_name} (begins-undescribed (keyword-within "schema" refl) (keyword-within "directive" refl) (bodies-within refl refl refl refl refl refl)) has-undescribed
    (exact-maybe_description name-no-text)
    (exact-undescribed ends apart)))

begins-described : {g : Test} → IsSubset is_text g → IsSubset (keyword "schema") g → IsSubset (keyword "directive") g → IsSubset body_first g → BeginsWith described g
begins-described a-text a-schema a-directive a-body =
    begins-same is-described (begins-mapped (begins-opt {q = undescribed} (begins-within a-text begins-description) (begins-undescribed a-schema a-directive a-body)))

-- ---- extensions

abbrev extended : Limits → Rel Extended
extended c = mapped extends_schema (extended-schema c) ∪ mapped extends_type (extended_body Current c)

abbrev extensions : Limits → Rel Definition
extensions c = mapped schema (a_schema_extension Current c) ∪ mapped type_def (a_type_extension Current c)

-- the two, with 'extend' once
is-extension : (c : Limits) (x : List Token) (t : Definition) → mapped extension_of (one (keyword "extend") ⨾ extended c) x t ↔ extensions c x t
is-extension c x t =
    both-ways (spread-out (one (keyword "extend")) (mapped extends_schema (extended-schema c)) (mapped extends_type (extended_body Current c)) extension_of x t)
    (either-same (mapped extension_of (one (keyword "extend") ⨾ mapped extends_schema (extended-schema c))) (mapped schema (a_schema_extension Current c)) (mapped extension_of (one (keyword "extend") ⨾ mapped extends_type (extended_body Current c))) (mapped type_def (a_type_extension Current c)) x t
    (taken-in (one (keyword "extend")) (extended-schema c) extends_schema extension_of schema_extension_of schema (λ a b. refl) x t)
    (taken-in (one (keyword "extend")) (extended_body Current c) extends_type extension_of type_extension_of type_def (λ a b. refl) x t))

has-extended : HasPhrase extended
has-extended = has-first {q = λ c. mapped extends_type (extended_body Current c)} (has-map has-extended-schema)

exact-extension : {b : Limits} {f : Test} → IsSubset f no-punctuator → IsSubset f (outside (keyword "implements")) → ReadsExactly extensions b f (extension_at b)
exact-extension ends apart =
    exact-same is-extension (exact-mapped (exact-next has-extended (exact-keyword "extend")
    (exact-choose (begins-mapped begins-extended-schema) (begins-mapped (begins-within (bodies-within refl refl refl refl refl refl) begins-extended_body))
    (exact-mapped (exact-extended-schema (past-parts ends) (past-punctuator "{" ends)))
    (exact-mapped (exact-extended_body ends apart)))))

begins-extension : BeginsWith extensions (keyword "extend")
begins-extension = begins-same is-extension (begins-mapped (begins-then {q = extended} begins-one))

-- ---- both

-- the same alternatives in another order
in-order : {A : Type 0} (p q r s u : Rel A) (x : List Token) (t : A) → ((q ∪ s) ∪ (p ∪ (u ∪ r))) x t ↔ (p ∪ (q ∪ (r ∪ (s ∪ u)))) x t
in-order {A} p q r s u x t = (to, from)
  where
    to : ((q ∪ s) ∪ (p ∪ (u ∪ r))) x t → (p ∪ (q ∪ (r ∪ (s ∪ u)))) x t
    to (inl (inl m)) = inr (inl m)
    to (inl (inr m)) = inr (inr (inr (inl m)))
    to (inr (inl m)) = inl m
    to (inr (inr (inl m))) = inr (inr (inr (inr m)))
    to (inr (inr (inr m))) = inr (inr (inl m))

    from : (p ∪ (q ∪ (r ∪ (s ∪ u)))) x t → ((q ∪ s) ∪ (p ∪ (u ∪ r))) x t
    from (inl m) = inr (inl m)
    from (inr (inl m)) = inl (inl m)
    from (inr (inr (inl m))) = inr (inr (inr m))
    from (inr (inr (inr (inl m)))) = inl (inr m)
    from (inr (inr (inr (inr m)))) = inr (inr (inl m))

is-definition : (c : Limits) (x : List Token) (t : Definition) → (extensions c ∪ described c) x t ↔ a_definition Current c x t
is-definition c = in-order (mapped schema (a_schema Current c)) (mapped schema (a_schema_extension Current c)) (mapped type_def (a_type_definition Current c)) (mapped type_def (a_type_extension Current c)) (mapped directive (a_directive_definition Current c))

pub exact-definition : {b : Limits} {f : Test} → IsSubset f no-punctuator → IsSubset f (outside (keyword "implements")) → ReadsExactly (a_definition Current) b f (definition_at b)
exact-definition ends apart =
    exact-same is-definition (exact-choose begins-extension
    (begins-described (text-within (λ spelling. refl) (λ spelling. refl)) (keyword-within "schema" refl) (keyword-within "directive" refl) (bodies-within refl refl refl refl refl refl))
    (exact-extension ends apart)
    (exact-described ends apart))

pub begins-definition : BeginsWith (a_definition Current) definition_first
begins-definition =
    begins-same is-definition (begins-either (begins-within (keyword-within "extend" refl) begins-extension)
    (begins-described (text-within (λ spelling. refl) (λ spelling. refl)) (keyword-within "schema" refl) (keyword-within "directive" refl) (bodies-within refl refl refl refl refl refl)))

pub has-definition : HasPhrase (a_definition Current)
has-definition = has-first {q = λ c. mapped schema (a_schema_extension Current c) ∪ mapped type_def (a_type_definition Current c) ∪ mapped type_def (a_type_extension Current c) ∪ mapped directive (a_directive_definition Current c)} (has-map (has-map (has-pair has-maybe_description has-schema-rest)))

-- ---- places

ignores-schema : IgnoresPlaces (a_schema Current) (unplaced placeless_schema)
ignores-schema = ignores-mapped {k = schema_of} (λ x. described-nowhere placeless_schema x.0 x.1.0 (schema_of x).node) (ignores-then ignores-maybe_description ignores-schema-rest)

ignores-schema_extension : IgnoresPlaces (a_schema_extension Current) (unplaced placeless_schema)
ignores-schema_extension = ignores-mapped {k = schema_extension_of} (λ x. refl) (ignores-then (ignores-one (keyword "extend") (λ spelling. refl)) ignores-extended-schema)

ignores-type_definition : IgnoresPlaces (a_type_definition Current) (unplaced placeless_type)
ignores-type_definition = ignores-mapped {k = type_definition_of} (λ x. described-nowhere placeless_type x.0 x.1.0 (type_definition_of x).node) (ignores-then ignores-maybe_description ignores-body)

ignores-type_extension : IgnoresPlaces (a_type_extension Current) (unplaced placeless_type)
ignores-type_extension = ignores-mapped {k = type_extension_of} (λ x. refl) (ignores-then (ignores-one (keyword "extend") (λ spelling. refl)) ignores-extended_body)

-- the definition without places, with these arguments and repeatable or not
abbrev with-arguments : Description × DirectiveRest → InputValues → Bool → Positioned DirectiveDefinition
with-arguments x arguments repeatable = describes (placeless_description x.0) (without_place x.1.0) (record (placeless_directive_definition (directive_definition_of x).node) { arguments = arguments; is_repeatable = repeatable })

still-there : (word : Option Token) → is_there word ≡ is_there (option_map without_place word)
still-there None = refl
still-there (Some word) = refl

directive-nowhere : (x : Description × DirectiveRest) → unplaced placeless_directive_definition (directive_definition_of x) ≡ directive_definition_of (placeless_description x.0, placeless-directive-rest x.1)
directive-nowhere x =
    described-nowhere placeless_directive_definition x.0 x.1.0 (directive_definition_of x).node
    ∙ ap (λ (arguments : InputValues). with-arguments x arguments (is_there x.1.1.1.1.1.0)) (map-given (unplaced placeless_input_value) x.1.1.1.1.0)
    ∙ ap (with-arguments x (given (option_map placeless_input_values x.1.1.1.1.0))) (still-there x.1.1.1.1.1.0)

ignores-directive_definition : IgnoresPlaces (a_directive_definition Current) (unplaced placeless_directive_definition)
ignores-directive_definition = ignores-mapped {k = directive_definition_of} directive-nowhere (ignores-then ignores-maybe_description ignores-directive-rest)

pub ignores-definition : IgnoresPlaces (a_definition Current) placeless_definition
ignores-definition =
    ignores-either (ignores-mapped {k = schema} (λ s. refl) ignores-schema)
    (ignores-either (ignores-mapped {k = schema} (λ s. refl) ignores-schema_extension)
    (ignores-either (ignores-mapped {k = type_def} (λ t. refl) ignores-type_definition)
    (ignores-either (ignores-mapped {k = type_def} (λ t. refl) ignores-type_extension)
    (ignores-mapped {k = directive} (λ d. refl) ignores-directive_definition))))

-- ---- schema files

-- what follows a definition: another one, or the end of the text
abbrev pub after_definition : Test
after_definition t = definition_first t || the_end t

definitions-within : {g : Test} → IsSubset is_text g → IsTrue (g (word_of "extend")) → IsTrue (g (word_of "schema")) → IsTrue (g (word_of "directive")) → IsSubset body_first g → IsSubset definition_first g
definitions-within a-text an-extension a-schema a-directive a-body =
    within-either (within-either (within-either (within-either a-text (keyword-within "extend" an-extension)) (keyword-within "schema" a-schema)) (keyword-within "directive" a-directive)) a-body

ends-definition : IsSubset after_definition no-punctuator
ends-definition = within-either (definitions-within (text-within (λ spelling. refl) (λ spelling. refl)) refl refl refl (bodies-within refl refl refl refl refl refl)) (the_end-within (λ spelling. refl))

no-interfaces : IsSubset after_definition (outside (keyword "implements"))
no-interfaces = within-either (definitions-within (text-within (λ spelling. refl) (λ spelling. refl)) refl refl refl (bodies-within refl refl refl refl refl refl)) (the_end-within (λ spelling. refl))

definition-goes-on : IsSubset definition_first after_definition
definition-goes-on = definitions-within (text-within (λ spelling. refl) (λ spelling. refl)) refl refl refl (bodies-within refl refl refl refl refl refl)

exact-next-definition : {b : Limits} → ReadsExactly (a_definition Current) b after_definition (definition_at b)
exact-next-definition = exact-definition ends-definition no-interfaces

pub takes-definition : (limits : Limits) → Takes (definition_at limits)
takes-definition limits = takes-one {b = limits} exact-next-definition begins-definition

-- the end of the text ends the list
pub exact-definitions : {b : Limits} → ReadsExactly (definitions Current) b the_end (definitions_at b)
exact-definitions = exact-plus-ahead {g = after_definition} begins-definition definition-goes-on (the_end-within (λ spelling. refl)) (the_end-within (λ spelling. refl)) exact-next-definition

pub has-definitions : HasPhrase (definitions Current)
has-definitions = has-plus has-definition

pub ignores-definitions : IgnoresPlaces (definitions Current) placeless_definitions
ignores-definitions = ignores-plus ignores-definition

pub schemas-are-read : IsRead schemas definitions_at
schemas-are-read = record { has_phrase = has-definitions; ignores_places = ignores-definitions; reads_exactly = λ b. exact-definitions {b = b}; includes = includes-definitions; judges = schemas-judge-alike }

pub schemas-read-by : IsReadBy schemas definitions_at
schemas-read-by = is-read-by schemas definitions_at schemas-are-read
