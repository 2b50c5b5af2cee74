-- In each schema file that the grammar relates to tokens no object has a name twice.
use Rattle.std.proofs.Common.{false, List, [], ◌∷◌}
use Rattle.std.specs.List.{AllByRecursion}
use Rattle.graphql_tokens.specs.declared.pos.Positioned.{Positioned}
use Rattle.graphql_tokens.specs.tokens.Edition.{Current}
use Rattle.graphql_tokens.specs.tokens.Token.{Token}
use Rattle.graphql_trees.specs.trees.Schema.{FieldDefinition, EnumValueDefinition, TypeDefinition, object, interface, union, enumeration, input_object}
use Rattle.graphql_grammar.specs.answers.Language.{grammar}
use Rattle.graphql_grammar.specs.grammar.Distinct.{IsDistinctValue, AreDistinctDirectives}
use Rattle.graphql_grammar.specs.grammar.Types.{type_reference}
use Rattle.graphql_grammar.proofs.DistinctValues.{keeps-directive, keeps-directives, keeps-default, default-distinct}
use Rattle.graphql_reading.specs.grammar.Limits.{Limits}
use Rattle.graphql_reading.specs.grammar.Relations.{Rel, one, ◌⨾◌, ◌∪◌, plus, opt, between, after, separated}
use Rattle.graphql_reading.specs.grammar.Tests.{punct, keyword, any_name}
use Rattle.graphql_reading.proofs.Keeps.{Keeps, Anything, BothOf, OfOption, keeps-any, keeps-more, keeps-mapped, keeps-then, keeps-either, keeps-opt, keeps-plus, keeps-between, keeps-whole, of-given}
use Rattle.graphql_schemas.specs.grammar.Descriptions.{a_description}
use Rattle.graphql_schemas.specs.grammar.Directives.{a_location, a_directive_definition}
use Rattle.graphql_schemas.specs.grammar.Documents.{tree_of, document_of}
use Rattle.graphql_schemas.specs.grammar.Fields.{a_field_definition, fields}
use Rattle.graphql_schemas.specs.grammar.InputValues.{an_input_value, arguments_definition}
use Rattle.graphql_schemas.specs.grammar.Laws.{IsDistinctInputValue, AreDistinctInputValues, IsDistinctField, IsDistinctEnumValue, IsDistinctKind, HasDistinctObjects}
use Rattle.graphql_schemas.specs.grammar.Members.{implements, members, enum_name, an_enum_value}
use Rattle.graphql_schemas.specs.grammar.Schema.{Schema, roots, schema_description, a_schema, a_schema_extension}
use Rattle.graphql_schemas.specs.grammar.SchemaFile.{Definition, definitions, a_definition}
use Rattle.graphql_schemas.specs.grammar.Schemas.{schemas}
use Rattle.graphql_schemas.specs.grammar.Types.{parts, some_parts, Members, field_parts, some_field_parts, Rest, Body, a_body, fields_rest, list_rest, body, extended_body, a_type_definition, a_type_extension}
use Prim.Native.String.{String}

-- ---- input values

keeps-input_value : (c : Limits) → Keeps (an_input_value Current c) IsDistinctInputValue
keeps-input_value c =
    keeps-mapped {P = BothOf Anything (BothOf Anything (BothOf Anything (BothOf Anything (BothOf (OfOption IsDistinctValue) AreDistinctDirectives))))} (λ x k. (default-distinct x.1.1.1.1.0 k.1.1.1.1.0, k.1.1.1.1.1))
    (keeps-then (keeps-any {p = opt (a_description Current)}) (keeps-then (keeps-any {p = one any_name}) (keeps-then (keeps-any {p = one (punct ":")}) (keeps-then (keeps-any {p = type_reference c.types}) (keeps-then (keeps-opt (keeps-default c.values)) (keeps-directives false c.values))))))

keeps-arguments_definition : (c : Limits) → Keeps (arguments_definition Current c) AreDistinctInputValues
keeps-arguments_definition c = keeps-between (punct "(") (punct ")") (keeps-plus (keeps-input_value c))

-- one or more between braces
keeps-braced : {A : Type 0} {p : Rel A} {P : A → Type 0} → Keeps p P → Keeps (between (punct "{") (plus p) (punct "}")) (AllByRecursion P)
keeps-braced h = keeps-between (punct "{") (punct "}") (keeps-plus h)

-- ---- fields

abbrev OfFields : List (Positioned FieldDefinition) → Type 0
OfFields fields = AllByRecursion IsDistinctField fields

keeps-field_definition : (c : Limits) → Keeps (a_field_definition Current c) IsDistinctField
keeps-field_definition c =
    keeps-mapped {P = BothOf Anything (BothOf Anything (BothOf (OfOption AreDistinctInputValues) (BothOf Anything (BothOf Anything AreDistinctDirectives))))} (λ x k. (of-given AreDistinctInputValues tt x.1.1.0 k.1.1.0, k.1.1.1.1.1))
    (keeps-then (keeps-any {p = opt (a_description Current)}) (keeps-then (keeps-any {p = one any_name}) (keeps-then (keeps-opt (keeps-arguments_definition c)) (keeps-then (keeps-any {p = one (punct ":")}) (keeps-then (keeps-any {p = type_reference c.types}) (keeps-directives false c.values))))))

keeps-fields : (c : Limits) → Keeps (fields Current c) OfFields
keeps-fields c = keeps-braced (keeps-field_definition c)

-- ---- values of enums

abbrev OfEnumValues : List (Positioned EnumValueDefinition) → Type 0
OfEnumValues values = AllByRecursion IsDistinctEnumValue values

keeps-enum_value : (c : Limits) → Keeps (an_enum_value Current c) IsDistinctEnumValue
keeps-enum_value c =
    keeps-mapped {P = BothOf Anything (BothOf Anything AreDistinctDirectives)} (λ x k. k.1.1)
    (keeps-then (keeps-any {p = opt (a_description Current)}) (keeps-then (keeps-any {p = one enum_name}) (keeps-directives false c.values)))

-- ---- parts that may stand or not

keeps-parts : {A : Type 0} {p : Rel (List A)} {P : List A → Type 0} (c : Limits) → P [] → Keeps p P → Keeps (parts Current c p) (BothOf AreDistinctDirectives P)
keeps-parts {P = P} c empty h =
    keeps-mapped {P = BothOf AreDistinctDirectives (OfOption P)} (λ x k. (k.0, of-given P empty x.1 k.1)) (keeps-then (keeps-directives false c.values) (keeps-opt h))

keeps-some_parts : {A : Type 0} {p : Rel (List A)} {P : List A → Type 0} (c : Limits) → P [] → Keeps p P → Keeps (some_parts Current c p) (BothOf AreDistinctDirectives P)
keeps-some_parts {P = P} c empty h =
    keeps-either
    (keeps-mapped {P = BothOf AreDistinctDirectives (OfOption P)} (λ x k. (k.0, of-given P empty x.1 k.1)) (keeps-then (keeps-plus (keeps-directive false c.values)) (keeps-opt h)))
    (keeps-mapped {P = P} (λ list k. (tt, k)) h)

abbrev OfMembers : Members → Type 0
OfMembers x = BothOf AreDistinctDirectives OfFields x.1

keeps-field_parts : (c : Limits) → Keeps (field_parts Current c) OfMembers
keeps-field_parts c = keeps-mapped {P = BothOf Anything (BothOf AreDistinctDirectives OfFields)} (λ x k. k.1) (keeps-then (keeps-any {p = opt implements}) (keeps-parts {P = OfFields} c tt (keeps-fields c)))

keeps-some_field_parts : (c : Limits) → Keeps (some_field_parts Current c) OfMembers
keeps-some_field_parts c =
    keeps-either (keeps-more {P = BothOf Anything (BothOf AreDistinctDirectives OfFields)} (λ x k. k.1) (keeps-then (keeps-any {p = implements}) (keeps-parts {P = OfFields} c tt (keeps-fields c))))
    (keeps-mapped {P = BothOf AreDistinctDirectives OfFields} (λ x k. k) (keeps-some_parts {P = OfFields} c tt (keeps-fields c)))

-- ---- bodies

abbrev OfRest : Rest → Type 0
OfRest x = AreDistinctDirectives x.0 × IsDistinctKind x.1

abbrev OfBody : Body → Type 0
OfBody x = OfRest x.1.1

keeps-a_body : (word : String) {rest : Rel Rest} → Keeps rest OfRest → Keeps (a_body word rest) OfBody
keeps-a_body word h = keeps-mapped {P = BothOf Anything (BothOf Anything OfRest)} (λ x k. k.1.1) (keeps-then (keeps-any {p = one (keyword word)}) (keeps-then (keeps-any {p = one any_name}) h))

keeps-bodies : {s o i u e n : Rel Rest} → Keeps s OfRest → Keeps o OfRest → Keeps i OfRest → Keeps u OfRest → Keeps e OfRest → Keeps n OfRest → Keeps (a_body "scalar" s ∪ a_body "type" o ∪ a_body "interface" i ∪ a_body "union" u ∪ a_body "enum" e ∪ a_body "input" n) OfBody
keeps-bodies scalar an-object an-interface a-union an-enum an-input =
    keeps-either (keeps-a_body "scalar" scalar)
    (keeps-either (keeps-a_body "type" an-object)
    (keeps-either (keeps-a_body "interface" an-interface)
    (keeps-either (keeps-a_body "union" a-union)
    (keeps-either (keeps-a_body "enum" an-enum) (keeps-a_body "input" an-input)))))

keeps-body : (c : Limits) → Keeps (body Current c) OfBody
keeps-body c =
    keeps-bodies (keeps-mapped {P = AreDistinctDirectives} (λ x k. (k, tt)) (keeps-directives false c.values))
    (keeps-mapped {f = fields_rest object} {P = OfMembers} (λ x k. k) (keeps-field_parts c))
    (keeps-mapped {f = fields_rest interface} {P = OfMembers} (λ x k. k) (keeps-field_parts c))
    (keeps-mapped {f = list_rest union} {P = BothOf AreDistinctDirectives Anything} (λ x k. k) (keeps-parts c tt (keeps-any {p = members})))
    (keeps-mapped {f = list_rest enumeration} {P = BothOf AreDistinctDirectives OfEnumValues} (λ x k. k) (keeps-parts {P = OfEnumValues} c tt (keeps-braced (keeps-enum_value c))))
    (keeps-mapped {f = list_rest input_object} {P = BothOf AreDistinctDirectives AreDistinctInputValues} (λ x k. k) (keeps-parts {P = AreDistinctInputValues} c tt (keeps-braced (keeps-input_value c))))

keeps-extended_body : (c : Limits) → Keeps (extended_body Current c) OfBody
keeps-extended_body c =
    keeps-bodies (keeps-mapped {P = AreDistinctDirectives} (λ x k. (k, tt)) (keeps-plus (keeps-directive false c.values)))
    (keeps-mapped {f = fields_rest object} {P = OfMembers} (λ x k. k) (keeps-some_field_parts c))
    (keeps-mapped {f = fields_rest interface} {P = OfMembers} (λ x k. k) (keeps-some_field_parts c))
    (keeps-mapped {f = list_rest union} {P = BothOf AreDistinctDirectives Anything} (λ x k. k) (keeps-some_parts c tt (keeps-any {p = members})))
    (keeps-mapped {f = list_rest enumeration} {P = BothOf AreDistinctDirectives OfEnumValues} (λ x k. k) (keeps-some_parts {P = OfEnumValues} c tt (keeps-braced (keeps-enum_value c))))
    (keeps-mapped {f = list_rest input_object} {P = BothOf AreDistinctDirectives AreDistinctInputValues} (λ x k. k) (keeps-some_parts {P = AreDistinctInputValues} c tt (keeps-braced (keeps-input_value c))))

-- ---- definitions and extensions

abbrev OfSchema : Positioned Schema → Type 0
OfSchema s = AreDistinctDirectives s.node.directives

keeps-schema : (c : Limits) → Keeps (a_schema Current c) OfSchema
keeps-schema c =
    keeps-mapped {P = BothOf Anything (BothOf Anything (BothOf AreDistinctDirectives Anything))} (λ x k. k.1.1.0)
    (keeps-then (keeps-any {p = opt (schema_description Current)}) (keeps-then (keeps-any {p = one (keyword "schema")}) (keeps-then (keeps-directives false c.values) (keeps-any {p = roots}))))

keeps-schema_extension : (c : Limits) → Keeps (a_schema_extension Current c) OfSchema
keeps-schema_extension c =
    keeps-mapped {P = BothOf Anything (BothOf Anything (BothOf AreDistinctDirectives Anything))} (λ x k. k.1.1.0)
    (keeps-then (keeps-any {p = one (keyword "extend")}) (keeps-then (keeps-any {p = one (keyword "schema")}) (keeps-some_parts c tt (keeps-any {p = roots}))))

abbrev OfType : Positioned TypeDefinition → Type 0
OfType t = AreDistinctDirectives t.node.directives × IsDistinctKind t.node.kind

keeps-type_definition : (c : Limits) → Keeps (a_type_definition Current c) OfType
keeps-type_definition c = keeps-mapped {P = BothOf Anything OfBody} (λ x k. k.1) (keeps-then (keeps-any {p = opt (a_description Current)}) (keeps-body c))

keeps-type_extension : (c : Limits) → Keeps (a_type_extension Current c) OfType
keeps-type_extension c = keeps-mapped {P = BothOf Anything OfBody} (λ x k. k.1) (keeps-then (keeps-any {p = one (keyword "extend")}) (keeps-extended_body c))

keeps-directive_definition : (c : Limits) → Keeps (a_directive_definition Current c) (λ d. AreDistinctInputValues d.node.arguments)
keeps-directive_definition c =
    keeps-mapped {P = BothOf Anything (BothOf Anything (BothOf Anything (BothOf Anything (BothOf (OfOption AreDistinctInputValues) Anything))))} (λ x k. of-given AreDistinctInputValues tt x.1.1.1.1.0 k.1.1.1.1.0)
    (keeps-then (keeps-any {p = opt (a_description Current)}) (keeps-then (keeps-any {p = one (keyword "directive")}) (keeps-then (keeps-any {p = one (punct "@")}) (keeps-then (keeps-any {p = one any_name})
    (keeps-then (keeps-opt (keeps-arguments_definition c)) (keeps-any {p = opt (one (keyword "repeatable")) ⨾ after (keyword "on") (separated (punct "|") a_location)}))))))

abbrev OfDefinition : Definition → Type 0
OfDefinition d = HasDistinctObjects (tree_of d)

keeps-definition : (c : Limits) → Keeps (a_definition Current c) OfDefinition
keeps-definition c =
    keeps-either (keeps-mapped {P = OfSchema} (λ s k. k) (keeps-schema c))
    (keeps-either (keeps-mapped {P = OfSchema} (λ s k. k) (keeps-schema_extension c))
    (keeps-either (keeps-mapped {P = OfType} (λ t k. k) (keeps-type_definition c))
    (keeps-either (keeps-mapped {P = OfType} (λ t k. k) (keeps-type_extension c))
    (keeps-mapped {P = λ d. AreDistinctInputValues d.node.arguments} (λ d k. k) (keeps-directive_definition c)))))

-- ---- documents

in-document : (ds : List Definition) → AllByRecursion OfDefinition ds → AllByRecursion HasDistinctObjects (document_of ds)
in-document [] h = tt
in-document (d ∷ ds) h = (h.0, in-document ds h.1)

pub distinct-objects : (c : Limits) (ts : List Token) (ds : List Definition) → grammar schemas Current c ts ds → AllByRecursion HasDistinctObjects (document_of ds)
distinct-objects c ts ds h = in-document ds ((keeps-whole {p = definitions Current} (λ c. keeps-plus (keeps-definition c)) c).by ts ds h)
