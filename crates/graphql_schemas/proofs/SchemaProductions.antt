-- Roots, and what a definition or an extension of a schema says, are read exactly; and their places don't matter.
use Rattle.std.proofs.Common.{false, List, map, refl}
use Rattle.graphql_tokens.specs.tokens.Edition.{Current}
use Rattle.graphql_tokens.specs.tokens.Token.{Token}
use Rattle.graphql_syntax.specs.trees.Parts.{Directives}
use Rattle.graphql_reading.specs.grammar.Fronts.{without_place}
use Rattle.graphql_reading.specs.grammar.Limits.{Limits}
use Rattle.graphql_reading.specs.grammar.Relations.{Rel, one, ◌⨾◌}
use Rattle.graphql_reading.specs.grammar.Tests.{Test, punct, keyword, any_name}
use Rattle.graphql_reading.proofs.Theory.{IsSubset, outside, anything}
use Rattle.graphql_reading.proofs.TokenTests.{punct-within, HasSample, keyword-sample, name-sample}
use Rattle.graphql_reading.proofs.PunctSamples.{has-open_object, has-close_object, has-colon}
use Rattle.graphql_reading.proofs.ReadsExactly.{ReadsExactly, HasPhrase, BeginsWith, exact-punct, exact-keyword, exact-name, exact-mapped, exact-next, exact-then-some, exact-plus, begins-one, begins-mapped, begins-then, has-token, has-pair, has-map, has-plus}
use Rattle.graphql_reading.proofs.IgnoresPlaces.{IgnoresPlaces, ignores-one, ignores-then, ignores-mapped, ignores-plus}
use Rattle.graphql_reading.proofs.Marks.{exact-between, begins-between, has-between, ignores-between}
use Rattle.graphql_reading.proofs.Loop.{Takes, takes-one}
use Rattle.graphql_grammar.specs.grammar.Arguments.{directives}
use Rattle.graphql_grammar.proofs.ArgumentProductions.{budget, exact-directives, has-directives, ignores-directives}
use Rattle.graphql_grammar.proofs.OperationKinds.{exact-operation_type, begins-operation_type, has-operation_type, ignores-operation_type}
use Rattle.graphql_schemas.specs.grammar.Placeless.{placeless_root}
use Rattle.graphql_schemas.specs.grammar.Schema.{Root, a_root, roots}
use Rattle.graphql_schemas.specs.grammar.Types.{some_parts}
use Rattle.graphql_schemas.specs.reading.Schema.{root_first, root_at, roots_at, schema_rest_at, extended_schema_at}
use Rattle.graphql_schemas.proofs.PartProductions.{past-directives, placeless-parts, exact-some_parts, has-some_parts, ignores-some_parts}

-- ---- roots

pub exact-root : {b : Limits} {f : Test} → ReadsExactly (λ c. a_root) b f root_at
exact-root = exact-mapped (exact-next (has-pair has-colon (has-token name-sample)) exact-operation_type (exact-next (has-token name-sample) (exact-punct ":") exact-name))

pub begins-root : BeginsWith (λ c. a_root) root_first
begins-root = begins-mapped (begins-then (begins-operation_type refl refl refl))

pub has-root : HasPhrase (λ c. a_root)
has-root = has-map (has-pair has-operation_type (has-pair has-colon (has-token name-sample)))

pub ignores-root : IgnoresPlaces (λ c. a_root) placeless_root
ignores-root = ignores-mapped (λ x. refl) (ignores-then ignores-operation_type (ignores-then (ignores-one (punct ":") (λ spelling. refl)) (ignores-one any_name (λ spelling. refl))))

pub takes-root : Takes root_at
takes-root = takes-one {b = budget 0 0} {f = anything} exact-root begins-root

pub exact-roots : {b : Limits} {f : Test} → ReadsExactly (λ c. roots) b f roots_at
exact-roots = exact-between "{" "}" has-close_object (has-plus has-root) (exact-plus begins-root (punct-within "}" refl) exact-root)

pub begins-roots : BeginsWith (λ c. roots) (punct "{")
begins-roots = begins-between (punct "}")

pub has-roots : HasPhrase (λ c. roots)
has-roots = has-between (punct "{") (punct "}") has-open_object (has-plus has-root) has-close_object

pub ignores-roots : IgnoresPlaces (λ c. roots) (map placeless_root)
ignores-roots = ignores-between (punct "{") (punct "}") (λ spelling. refl) (λ spelling. refl) (ignores-plus ignores-root)

-- ---- definitions and extensions

-- a keyword, directives and roots
abbrev pub SchemaRest : Type 0
SchemaRest = Token × (Directives × List Root)

abbrev pub placeless-schema-rest : SchemaRest → SchemaRest
placeless-schema-rest x = (without_place x.0, placeless-parts placeless_root x.1)

-- what a definition says after its description
abbrev pub schema-rest : Limits → Rel SchemaRest
schema-rest c = one (keyword "schema") ⨾ directives Current false c.values ⨾ roots

schema-sample : HasSample (keyword "schema")
schema-sample = keyword-sample "schema" refl (refl, (refl, (refl, (refl, (refl, (refl, tt))))))

pub exact-schema-rest : {b : Limits} {f : Test} → ReadsExactly schema-rest b f (schema_rest_at b)
exact-schema-rest =
    exact-next (has-pair (has-directives false) has-roots) (exact-keyword "schema")
    (exact-then-some begins-roots has-roots (exact-directives false (punct-within "{" refl) (punct-within "{" refl)) exact-roots)

pub begins-schema-rest : BeginsWith schema-rest (keyword "schema")
begins-schema-rest = begins-then begins-one

pub has-schema-rest : HasPhrase schema-rest
has-schema-rest = has-pair (has-token schema-sample) (has-pair (has-directives false) has-roots)

pub ignores-schema-rest : IgnoresPlaces schema-rest placeless-schema-rest
ignores-schema-rest = ignores-then (ignores-one (keyword "schema") (λ spelling. refl)) (ignores-then (ignores-directives false) ignores-roots)

-- what an extension says after its 'extend'
abbrev pub extended-schema : Limits → Rel SchemaRest
extended-schema c = one (keyword "schema") ⨾ some_parts Current c roots

pub exact-extended-schema : {b : Limits} {f : Test} → IsSubset f past-directives → IsSubset f (outside (punct "{")) → ReadsExactly extended-schema b f (extended_schema_at b)
exact-extended-schema away none = exact-next (has-some_parts {p = λ c. roots}) (exact-keyword "schema") (exact-some_parts begins-roots (punct-within "{" refl) away none exact-roots)

pub begins-extended-schema : BeginsWith extended-schema (keyword "schema")
begins-extended-schema = begins-then begins-one

pub has-extended-schema : HasPhrase extended-schema
has-extended-schema = has-pair (has-token schema-sample) (has-some_parts {p = λ c. roots})

pub ignores-extended-schema : IgnoresPlaces extended-schema placeless-schema-rest
ignores-extended-schema = ignores-then (ignores-one (keyword "schema") (λ spelling. refl)) (ignores-some_parts ignores-roots)
