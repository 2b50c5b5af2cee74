-- A schema file of the former grammar is one of the current grammar, with the same tree.
use Rattle.std.proofs.Common.{false, List}
use Rattle.graphql_tokens.specs.tokens.Edition.{Former, Current}
use Rattle.graphql_grammar.proofs.Former.{includes-directive, includes-directives}
use Rattle.graphql_reading.specs.grammar.Limits.{Limits}
use Rattle.graphql_reading.specs.grammar.Relations.{Rel, one, ◌∪◌, opt, after, separated}
use Rattle.graphql_reading.specs.grammar.Tests.{punct, keyword, any_name}
use Rattle.graphql_reading.proofs.Includes.{Includes, includes-same, includes-then, includes-either, includes-mapped, includes-opt, includes-plus}
use Rattle.graphql_schemas.specs.grammar.Directives.{a_location, a_directive_definition}
use Rattle.graphql_schemas.specs.grammar.Members.{implements, members}
use Rattle.graphql_schemas.specs.grammar.Schema.{roots, schema_description, a_schema, a_schema_extension}
use Rattle.graphql_schemas.specs.grammar.SchemaFile.{a_definition, definitions}
use Rattle.graphql_schemas.specs.grammar.Types.{parts, some_parts, field_parts, some_field_parts, Rest, Body, a_body, body, extended_body, a_type_definition, a_type_extension}
use Rattle.graphql_schemas.proofs.FormerParts.{includes-description, includes-arguments_definition, includes-input_fields, includes-fields, includes-enum_values}
use Prim.Native.String.{String}

-- ---- parts that may stand or not

includes-parts : {A : Type 0} {p q : Rel (List A)} (c : Limits) → Includes p q → Includes (parts Former c p) (parts Current c q)
includes-parts c h = includes-mapped (includes-then (includes-directives false c.values) (includes-opt h))

includes-some_parts : {A : Type 0} {p q : Rel (List A)} (c : Limits) → Includes p q → Includes (some_parts Former c p) (some_parts Current c q)
includes-some_parts c h = includes-either (includes-mapped (includes-then (includes-plus (includes-directive false c.values)) (includes-opt h))) (includes-mapped h)

includes-field_parts : (c : Limits) → Includes (field_parts Former c) (field_parts Current c)
includes-field_parts c = includes-mapped (includes-then (includes-same {p = opt implements}) (includes-parts c (includes-fields c)))

includes-some_field_parts : (c : Limits) → Includes (some_field_parts Former c) (some_field_parts Current c)
includes-some_field_parts c = includes-either (includes-then (includes-same {p = implements}) (includes-parts c (includes-fields c))) (includes-mapped (includes-some_parts c (includes-fields c)))

-- ---- types

includes-a_body : (word : String) {p q : Rel Rest} → Includes p q → Includes (a_body word p) (a_body word q)
includes-a_body word h = includes-mapped (includes-then (includes-same {p = one (keyword word)}) (includes-then (includes-same {p = one any_name}) h))

-- the six kinds, whatever their rests say
abbrev bodies : Rel Rest → Rel Rest → Rel Rest → Rel Rest → Rel Rest → Rel Rest → Rel Body
bodies s o i u e n = a_body "scalar" s ∪ a_body "type" o ∪ a_body "interface" i ∪ a_body "union" u ∪ a_body "enum" e ∪ a_body "input" n

includes-bodies : {s o i u e n s' o' i' u' e' n' : Rel Rest} → Includes s s' → Includes o o' → Includes i i' → Includes u u' → Includes e e' → Includes n n' → Includes (bodies s o i u e n) (bodies s' o' i' u' e' n')
includes-bodies scalar an-object an-interface a-union an-enum an-input =
    includes-either (includes-a_body "scalar" scalar) (includes-either (includes-a_body "type" an-object) (includes-either (includes-a_body "interface" an-interface)
    (includes-either (includes-a_body "union" a-union) (includes-either (includes-a_body "enum" an-enum) (includes-a_body "input" an-input)))))

includes-body : (c : Limits) → Includes (body Former c) (body Current c)
includes-body c =
    includes-bodies (includes-mapped (includes-directives false c.values)) (includes-mapped (includes-field_parts c)) (includes-mapped (includes-field_parts c))
    (includes-mapped (includes-parts c (includes-same {p = members}))) (includes-mapped (includes-parts c (includes-enum_values c))) (includes-mapped (includes-parts c (includes-input_fields c)))

includes-extended_body : (c : Limits) → Includes (extended_body Former c) (extended_body Current c)
includes-extended_body c =
    includes-bodies (includes-mapped (includes-plus (includes-directive false c.values))) (includes-mapped (includes-some_field_parts c)) (includes-mapped (includes-some_field_parts c))
    (includes-mapped (includes-some_parts c (includes-same {p = members}))) (includes-mapped (includes-some_parts c (includes-enum_values c))) (includes-mapped (includes-some_parts c (includes-input_fields c)))

includes-type_definition : (c : Limits) → Includes (a_type_definition Former c) (a_type_definition Current c)
includes-type_definition c = includes-mapped (includes-then (includes-opt includes-description) (includes-body c))

includes-type_extension : (c : Limits) → Includes (a_type_extension Former c) (a_type_extension Current c)
includes-type_extension c = includes-mapped (includes-then (includes-same {p = one (keyword "extend")}) (includes-extended_body c))

-- ---- schemas

-- by the former grammar there is none
includes-schema_description : Includes (schema_description Former) (schema_description Current)
includes-schema_description = record { by = λ x t h. absurd h }

includes-schema : (c : Limits) → Includes (a_schema Former c) (a_schema Current c)
includes-schema c = includes-mapped (includes-then (includes-opt includes-schema_description) (includes-then (includes-same {p = one (keyword "schema")}) (includes-then (includes-directives false c.values) (includes-same {p = roots}))))

includes-schema_extension : (c : Limits) → Includes (a_schema_extension Former c) (a_schema_extension Current c)
includes-schema_extension c = includes-mapped (includes-then (includes-same {p = one (keyword "extend")}) (includes-then (includes-same {p = one (keyword "schema")}) (includes-some_parts c (includes-same {p = roots}))))

-- ---- directives

includes-directive_definition : (c : Limits) → Includes (a_directive_definition Former c) (a_directive_definition Current c)
includes-directive_definition c =
    includes-mapped (includes-then (includes-opt includes-description)
    (includes-then (includes-same {p = one (keyword "directive")})
    (includes-then (includes-same {p = one (punct "@")})
    (includes-then (includes-same {p = one any_name})
    (includes-then (includes-opt (includes-arguments_definition c))
    (includes-then (includes-same {p = opt (one (keyword "repeatable"))}) (includes-same {p = after (keyword "on") (separated (punct "|") a_location)})))))))

-- ---- definitions

includes-definition : (c : Limits) → Includes (a_definition Former c) (a_definition Current c)
includes-definition c =
    includes-either (includes-mapped (includes-schema c))
    (includes-either (includes-mapped (includes-schema_extension c))
    (includes-either (includes-mapped (includes-type_definition c))
    (includes-either (includes-mapped (includes-type_extension c))
    (includes-mapped (includes-directive_definition c)))))

pub includes-definitions : (c : Limits) → Includes (definitions Former c) (definitions Current c)
includes-definitions c = includes-plus (includes-definition c)
