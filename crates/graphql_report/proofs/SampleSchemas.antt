-- Samples stand for the tokens of schema files.
use Rattle.std.proofs.Common.{◌≡◌, false, IsTrue, List, [], ◌∷◌, refl, sym, ap, subst}
use Rattle.graphql_tokens.specs.declared.lexer.TokenKind.TheVariants.{Name}
use Rattle.graphql_tokens.specs.tokens.Edition.{Current}
use Rattle.graphql_tokens.specs.tokens.Token.{Bare, Token}
use Rattle.graphql_reading.specs.grammar.Limits.{Limits}
use Rattle.graphql_reading.specs.grammar.Relations.{Rel}
use Rattle.graphql_reading.specs.grammar.Tests.{keyword, any_name}
use Rattle.graphql_reading.proofs.TokenTests.{any_name-is}
use Rattle.graphql_trees.specs.declared.service.DirectiveLocation.{DirectiveLocation}
use Rattle.graphql_trees.specs.declared.service.DirectiveLocation.TheVariants as locations
use Rattle.graphql_schemas.specs.grammar.Descriptions.{a_description}
use Rattle.graphql_schemas.specs.grammar.Directives.{IsLocation, a_location, a_directive_definition}
use Rattle.graphql_schemas.specs.grammar.Fields.{fields}
use Rattle.graphql_schemas.specs.grammar.InputValues.{an_input_value, arguments_definition, input_fields}
use Rattle.graphql_schemas.specs.grammar.Members.{implements, members, enum_name, enum_values}
use Rattle.graphql_schemas.specs.grammar.Schema.{roots, a_schema, a_schema_extension}
use Rattle.graphql_schemas.specs.grammar.SchemaFile.{a_definition, definitions}
use Rattle.graphql_schemas.specs.grammar.Types.{Rest, parts, some_parts, field_parts, some_field_parts, a_body, body, extended_body}
use Rattle.graphql_report.proofs.SampleTokens.{IsSampleOf, itself, a_number as by_number, a_string as by_string, a_block as by_block, a_name as by_name, a_location as by_location, Keeps, keeps-punct, keeps-keyword, keeps-name_but, AreSamplesOf, one-is, AllowsSamples, allows-one, allows-then, allows-mapped, allows-either, allows-plus, allows-opt, allows-punct, allows-keyword, allows-name, allows-after, allows-between, allows-separated}
use Rattle.graphql_report.proofs.SampleParts.{allows-text, allows-directive, allows-directives, allows-default, allows-type, allows-operation_type}
use Prim.Native.String.{String}

-- ---- locations

name-kind : (t : Bare) → IsTrue (any_name t) → t.kind ≡ Name
name-kind t h = ap (λ (t : Bare). t.kind) (any_name-is t h)

abbrev IsPlace : Bare → Type 0
IsPlace t = (location : DirectiveLocation) × IsTrue (any_name t) × IsLocation t location

location-sample : (t u : Bare) → IsSampleOf t u → IsPlace t → IsPlace u
location-sample t u (itself e) h = subst IsPlace e h
location-sample t u (by_number kind e) h = absurd (let is = name-kind t h.1 in cc)
location-sample t u (by_string kind e) h = absurd (let is = name-kind t h.1 in cc)
location-sample t u (by_block kind e) h = absurd (let is = name-kind t h.1 in cc)
location-sample t u (by_name kind none elsewhere e) h = absurd (elsewhere h.0 h.2)
location-sample t u (by_location kind none location there e) h = subst IsPlace (sym e) (locations.Field, refl, refl)

allows-location : AllowsSamples a_location
allows-location = record {
  by = λ x y a m samples.
      let s = one-is m.value.0 y (subst (λ (l : List Token). AreSamplesOf l y) m.holds.0 samples) in
      let there = location-sample m.value.0.bare s.sample.bare s.by (m.value.1, m.holds.1, m.holds.2) in
      (_, record { value = (s.sample, there.0); holds = (s.is, there.1, there.2); is = refl });
}

-- ---- parts of types

allows-description : AllowsSamples (a_description Current)
allows-description = allows-text _

allows-input_value : (limits : Limits) → AllowsSamples (an_input_value Current limits)
allows-input_value limits = allows-mapped _ (allows-then (allows-opt allows-description) (allows-then allows-name (allows-then (allows-punct ":") (allows-then (allows-type limits.types) (allows-then (allows-opt (allows-default limits.values)) (allows-directives false limits.values))))))

allows-arguments_definition : (limits : Limits) → AllowsSamples (arguments_definition Current limits)
allows-arguments_definition limits = allows-between "(" ")" (allows-plus (allows-input_value limits))

allows-input_fields : (limits : Limits) → AllowsSamples (input_fields Current limits)
allows-input_fields limits = allows-between "{" "}" (allows-plus (allows-input_value limits))

allows-fields : (limits : Limits) → AllowsSamples (fields Current limits)
allows-fields limits = allows-between "{" "}" (allows-plus (allows-mapped _ (allows-then (allows-opt allows-description) (allows-then allows-name (allows-then (allows-opt (allows-arguments_definition limits)) (allows-then (allows-punct ":") (allows-then (allows-type limits.types) (allows-directives false limits.values))))))))

allows-implements : AllowsSamples implements
allows-implements = allows-after (keeps-keyword "implements" refl) (allows-separated "&" (allows-mapped _ allows-name))

allows-members : AllowsSamples members
allows-members = allows-after (keeps-punct "=") (allows-separated "|" (allows-mapped _ allows-name))

keeps-enum_name : Keeps enum_name
keeps-enum_name = keeps-name_but ("true" ∷ "false" ∷ "null" ∷ []) refl refl

allows-enum_values : (limits : Limits) → AllowsSamples (enum_values Current limits)
allows-enum_values limits = allows-between "{" "}" (allows-plus (allows-mapped _ (allows-then (allows-opt allows-description) (allows-then (allows-one keeps-enum_name) (allows-directives false limits.values)))))

allows-parts : {A : Type 0} (limits : Limits) {p : Rel (List A)} → AllowsSamples p → AllowsSamples (parts Current limits p)
allows-parts limits h = allows-mapped _ (allows-then (allows-directives false limits.values) (allows-opt h))

allows-some_parts : {A : Type 0} (limits : Limits) {p : Rel (List A)} → AllowsSamples p → AllowsSamples (some_parts Current limits p)
allows-some_parts limits h = allows-either (allows-mapped _ (allows-then (allows-plus (allows-directive false limits.values)) (allows-opt h))) (allows-mapped _ h)

allows-field_parts : (limits : Limits) → AllowsSamples (field_parts Current limits)
allows-field_parts limits = allows-mapped _ (allows-then (allows-opt allows-implements) (allows-parts limits (allows-fields limits)))

allows-some_field_parts : (limits : Limits) → AllowsSamples (some_field_parts Current limits)
allows-some_field_parts limits = allows-either (allows-then allows-implements (allows-parts limits (allows-fields limits))) (allows-mapped _ (allows-some_parts limits (allows-fields limits)))

-- ---- types

allows-a_body : (word : String) {rest : Rel Rest} → Keeps (keyword word) → AllowsSamples rest → AllowsSamples (a_body word rest)
allows-a_body word keeps h = allows-mapped _ (allows-then (allows-one keeps) (allows-then allows-name h))

allows-body : (limits : Limits) → AllowsSamples (body Current limits)
allows-body limits =
    allows-either (allows-a_body "scalar" (keeps-keyword "scalar" refl) (allows-mapped _ (allows-directives false limits.values)))
    (allows-either (allows-a_body "type" (keeps-keyword "type" refl) (allows-mapped _ (allows-field_parts limits)))
    (allows-either (allows-a_body "interface" (keeps-keyword "interface" refl) (allows-mapped _ (allows-field_parts limits)))
    (allows-either (allows-a_body "union" (keeps-keyword "union" refl) (allows-mapped _ (allows-parts limits allows-members)))
    (allows-either (allows-a_body "enum" (keeps-keyword "enum" refl) (allows-mapped _ (allows-parts limits (allows-enum_values limits))))
    (allows-a_body "input" (keeps-keyword "input" refl) (allows-mapped _ (allows-parts limits (allows-input_fields limits))))))))

allows-extended_body : (limits : Limits) → AllowsSamples (extended_body Current limits)
allows-extended_body limits =
    allows-either (allows-a_body "scalar" (keeps-keyword "scalar" refl) (allows-mapped _ (allows-plus (allows-directive false limits.values))))
    (allows-either (allows-a_body "type" (keeps-keyword "type" refl) (allows-mapped _ (allows-some_field_parts limits)))
    (allows-either (allows-a_body "interface" (keeps-keyword "interface" refl) (allows-mapped _ (allows-some_field_parts limits)))
    (allows-either (allows-a_body "union" (keeps-keyword "union" refl) (allows-mapped _ (allows-some_parts limits allows-members)))
    (allows-either (allows-a_body "enum" (keeps-keyword "enum" refl) (allows-mapped _ (allows-some_parts limits (allows-enum_values limits))))
    (allows-a_body "input" (keeps-keyword "input" refl) (allows-mapped _ (allows-some_parts limits (allows-input_fields limits))))))))

-- ---- definitions

allows-roots : AllowsSamples roots
allows-roots = allows-between "{" "}" (allows-plus (allows-mapped _ (allows-then allows-operation_type (allows-then (allows-punct ":") allows-name))))

allows-schema : (limits : Limits) → AllowsSamples (a_schema Current limits)
allows-schema limits = allows-mapped _ (allows-then (allows-opt allows-description) (allows-then (allows-keyword "schema" refl) (allows-then (allows-directives false limits.values) allows-roots)))

allows-schema_extension : (limits : Limits) → AllowsSamples (a_schema_extension Current limits)
allows-schema_extension limits = allows-mapped _ (allows-then (allows-keyword "extend" refl) (allows-then (allows-keyword "schema" refl) (allows-some_parts limits allows-roots)))

allows-directive_definition : (limits : Limits) → AllowsSamples (a_directive_definition Current limits)
allows-directive_definition limits =
    allows-mapped _ (allows-then (allows-opt allows-description) (allows-then (allows-keyword "directive" refl) (allows-then (allows-punct "@") (allows-then allows-name (allows-then (allows-opt (allows-arguments_definition limits)) (allows-then (allows-opt (allows-keyword "repeatable" refl)) (allows-after (keeps-keyword "on" refl) (allows-separated "|" allows-location))))))))

allows-definition : (limits : Limits) → AllowsSamples (a_definition Current limits)
allows-definition limits =
    allows-either (allows-mapped _ (allows-schema limits))
    (allows-either (allows-mapped _ (allows-schema_extension limits))
    (allows-either (allows-mapped _ (allows-mapped _ (allows-then (allows-opt allows-description) (allows-body limits))))
    (allows-either (allows-mapped _ (allows-mapped _ (allows-then (allows-keyword "extend" refl) (allows-extended_body limits))))
    (allows-mapped _ (allows-directive_definition limits)))))

pub allows-definitions : (limits : Limits) → AllowsSamples (definitions Current limits)
allows-definitions limits = allows-plus (allows-definition limits)
