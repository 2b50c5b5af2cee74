-- What the phrases of schema files consist of.
use Rattle.std.proofs.Common.{◌≡◌, ◌<◌, Bool, true, false, cond, not, ◌&&◌, ◌||◌, Option, Some, None, List, [], ◌∷◌, length, refl, sym, ap, ◌∙◌, subst, arith}
use Rattle.graphql_tokens.specs.tokens.Token.{Bare, Token}
use Rattle.graphql_reading.specs.grammar.Fronts.{syntax}
use Rattle.graphql_reading.specs.grammar.Limits.{Limits}
use Rattle.graphql_reading.specs.grammar.Relations.{after_of}
use Rattle.graphql_reading.specs.grammar.Tests.{Test, punct, keyword, any_name}
use Rattle.graphql_reading.specs.reading.Outcome.{Outcome, Reader, Read, Refused, ◌>>=◌, one_at, between_at, after_at, choose_at, opt_at, many_at, plus_at, separated_at, Takes, meant}
use Rattle.graphql_grammar.specs.reading.Arguments.{directives_at, maybe_default_at}
use Rattle.graphql_schemas.specs.declared.types.Word.{Word}
use Rattle.graphql_schemas.specs.declared.types.Word.TheVariants as kinds
use Rattle.graphql_reading.specs.grammar.Places.{name_of}
use Rattle.graphql_trees.specs.declared.service.DirectiveLocation.{DirectiveLocation}
use Rattle.graphql_schemas.specs.grammar.Directives.{location_of}
use Rattle.graphql_schemas.specs.grammar.Fields.{field_definition_of}
use Rattle.graphql_schemas.specs.grammar.InputValues.{input_value_of}
use Rattle.graphql_schemas.specs.grammar.Members.{enum_name, enum_value_of}
use Rattle.graphql_schemas.specs.grammar.Schema.{root_of}
use Rattle.graphql_schemas.specs.grammar.Types.{Body, parts_of, members_of, body_of}
use Rattle.graphql_schemas.specs.reading.Bodies.{rest_at}
use Rattle.graphql_schemas.specs.reading.Descriptions.{is_text, description_at, maybe_description_at}
use Rattle.graphql_schemas.specs.reading.Directives.{location_named, location_at, locations_at, directive_rest_at}
use Rattle.graphql_schemas.specs.reading.Fields.{field_definition_at, fields_at}
use Rattle.graphql_schemas.specs.reading.InputValues.{member_first, input_value_at, arguments_definition_at, input_fields_at}
use Rattle.graphql_schemas.specs.reading.Members.{name_at, implements_at, members_at, enum_value_first, enum_value_at, enum_values_at}
use Rattle.graphql_schemas.specs.reading.Schema.{root_first, root_at, roots_at, schema_rest_at, extended_schema_at}
use Rattle.graphql_schemas.specs.reading.SchemaFile.{undescribed_at, with_description, definition_first, definition_at, extension_of, of_schema, of_type, of_directive, a_schema, a_type}
use Rattle.graphql_schemas.specs.reading.Types.{owed_at, parts_at, part_first, some_parts_at, field_parts_at, field_part_first, a_body_at, body_at}
use Rattle.graphql_schemas.proofs.FieldProductions.{takes-field_definition}
use Rattle.graphql_schemas.proofs.InputValueProductions.{takes-input_value}
use Rattle.graphql_schemas.proofs.MemberProductions.{takes-enum_value}
use Rattle.graphql_schemas.proofs.SchemaFileProductions.{takes-definition}
use Rattle.graphql_schemas.proofs.SchemaProductions.{takes-root}
use Rattle.graphql_parser.specs.Checked.{ended}
use Rattle.graphql_report.specs.declared.phrases.Keyword.{Keyword}
use Rattle.graphql_report.specs.declared.phrases.Keyword.TheVariants as words
use Rattle.graphql_report.specs.declared.phrases.Mark.{Mark}
use Rattle.graphql_report.specs.declared.phrases.Mark.TheVariants as marks
use Rattle.graphql_report.specs.declared.phrases.Phrase.{Phrase}
use Rattle.graphql_report.specs.declared.phrases.Phrase.TheVariants as phrases
use Rattle.graphql_report.specs.inner.Left.{in_sight, mark_text, keyword_text, word_by, extended_at, no_schema_at, phrase_at, phrases_at}
use Rattle.graphql_report.proofs.Apart.{chosen, Is, phrase-is, mapped-is, then-is, plus-is, separated-is, IsAt, at, mapped-at, choose-at, opt-at, many-at, Consists}
use Rattle.graphql_report.proofs.ValueProductions.{mark-is, name-is, directives-is, own_type-is}
use Rattle.graphql_report.proofs.RequestProductions.{keyword-is, operation_type-is}

-- a phrase after a mark takes a token at least
takes-after : {A : Type 0} (mark : Test) (r : Reader A) → Takes r → Takes (after_at mark r)
takes-after mark r takes [] a rest e = absurd cc
takes-after {A} mark r takes (t ∷ ts) a rest e = go (mark t.bare) e
  where
    read : (o : Outcome A) → r ts ≡ o → ((o >>= λ b rest'. Read (t, b) rest') >>= λ x rest'. Read (after_of x) rest') ≡ Read a rest → length rest < length (t ∷ ts)
    read (Read b rest') is k =
        let same : rest' ≡ rest = cc in
        let fewer = takes ts b rest' is in
        omega (arith, ap length same)
    read (Refused v rest') is k = absurd cc

    go : (w : Bool) → ((cond w (Read t ts) (Refused syntax (t ∷ ts)) >>= λ t rest'. r rest' >>= λ b rest''. Read (t, b) rest'') >>= λ x rest'. Read (after_of x) rest') ≡ Read a rest → length rest < length (t ∷ ts)
    go true k = read (r ts) refl k
    go false k = absurd cc

takes-name : Takes name_at
takes-name [] a rest e = absurd cc
takes-name (t ∷ ts) a rest e = go (any_name t.bare) e
  where
    go : (w : Bool) → (cond w (Read t ts) (Refused syntax (t ∷ ts)) >>= λ x rest'. Read (name_of x) rest') ≡ Read a rest → length rest < length (t ∷ ts)
    go true k = let same : ts ≡ rest = cc in omega (arith, ap length same)
    go false k = absurd cc

takes-location : Takes location_at
takes-location [] a rest e = absurd cc
takes-location (t ∷ ts) a rest e = go (any_name t.bare) (location_named t.bare.spelling) e
  where
    go : (w : Bool) (o : Option DirectiveLocation) → (cond w (meant t ts o) (Refused syntax (t ∷ ts)) >>= λ x rest'. Read (location_of x) rest') ≡ Read a rest → length rest < length (t ∷ ts)
    go true (Some l) k = let same : ts ≡ rest = cc in omega (arith, ap length same)
    go true None k = absurd cc
    go false o k = absurd cc

module _ (limits : Limits) where
  -- ---- parts

  description-is : Is limits maybe_description_at (phrases.MaybeDescription ∷ [])
  description-is = phrase-is limits maybe_description_at phrases.MaybeDescription (λ ts. refl)

  constant-is : Is limits (directives_at false limits.values) (phrases.Directives false ∷ [])
  constant-is = directives-is limits false

  own-name-is : Is limits name_at (phrases.Name ∷ [])
  own-name-is = mapped-is limits _ (name-is limits)

  -- phrases in brackets
  some-is : {A : Type 0} (opening closing : Mark) (first : Test) (r : Reader A) (one others : Phrase) → ((ts : List Token) → ended (r ts) ≡ phrase_at limits one ts) → ((ts : List Token) → ended (many_at first r ts) ≡ phrase_at limits others ts) → Is limits (between_at (punct (mark_text opening)) (plus_at first r) (punct (mark_text closing))) (phrases.Mark opening ∷ one ∷ others ∷ phrases.Mark closing ∷ [])
  some-is opening closing first r one others e k = mapped-is limits _ (then-is limits (mark-is limits opening) (then-is limits (plus-is limits first others k (phrase-is limits r one e)) (mark-is limits closing)))

  arguments-is : Is limits (arguments_definition_at limits) (phrases.Mark marks.OpenParen ∷ phrases.InputValueDefinition ∷ phrases.InputValueDefinitions ∷ phrases.Mark marks.CloseParen ∷ [])
  arguments-is = some-is marks.OpenParen marks.CloseParen member_first (input_value_at limits) phrases.InputValueDefinition phrases.InputValueDefinitions (λ ts. refl) (λ ts. refl)

  maybe_arguments-is : Is limits (opt_at (punct "(") (arguments_definition_at limits)) (phrases.MaybeArgumentsDefinition ∷ [])
  maybe_arguments-is = phrase-is limits (opt_at (punct "(") (arguments_definition_at limits)) phrases.MaybeArgumentsDefinition (λ ts. refl)

  input_value-is : Is limits (input_value_at limits) (phrases.MaybeDescription ∷ phrases.Name ∷ phrases.Mark marks.Colon ∷ phrases.OwnType ∷ phrases.MaybeDefault ∷ phrases.Directives false ∷ [])
  input_value-is =
      mapped-is limits input_value_of (then-is limits description-is (then-is limits (name-is limits) (then-is limits (mark-is limits marks.Colon)
      (then-is limits (own_type-is limits) (then-is limits (phrase-is limits (maybe_default_at limits.values) phrases.MaybeDefault (λ ts. refl)) constant-is)))))

  field-is : Is limits (field_definition_at limits) (phrases.MaybeDescription ∷ phrases.Name ∷ phrases.MaybeArgumentsDefinition ∷ phrases.Mark marks.Colon ∷ phrases.OwnType ∷ phrases.Directives false ∷ [])
  field-is = mapped-is limits field_definition_of (then-is limits description-is (then-is limits (name-is limits) (then-is limits maybe_arguments-is (then-is limits (mark-is limits marks.Colon) (then-is limits (own_type-is limits) constant-is)))))

  enum_value-is : Is limits (enum_value_at limits) (phrases.MaybeDescription ∷ phrases.EnumName ∷ phrases.Directives false ∷ [])
  enum_value-is = mapped-is limits enum_value_of (then-is limits description-is (then-is limits (phrase-is limits (one_at enum_name) phrases.EnumName (λ ts. refl)) constant-is))

  root-is : Is limits root_at (phrases.OperationType ∷ phrases.Mark marks.Colon ∷ phrases.Name ∷ [])
  root-is = mapped-is limits root_of (then-is limits (operation_type-is limits) (then-is limits (mark-is limits marks.Colon) (name-is limits)))

  roots-is : Is limits roots_at (phrases.Mark marks.OpenBrace ∷ phrases.Root ∷ phrases.Roots ∷ phrases.Mark marks.CloseBrace ∷ [])
  roots-is = some-is marks.OpenBrace marks.CloseBrace root_first root_at phrases.Root phrases.Roots (λ ts. refl) (λ ts. refl)

  -- names with a mark between each two of them
  names-is : (mark : Mark) → Is limits (separated_at (punct (mark_text mark)) name_at) (phrases.MaybeMark mark ∷ phrases.Name ∷ phrases.Names mark ∷ [])
  names-is mark = separated-is limits (punct (mark_text mark)) (phrases.MaybeMark mark) (phrases.Names mark) (λ ts. refl) (λ ts. refl) own-name-is

  implements-is : Is limits implements_at (phrases.Keyword words.Implements ∷ phrases.MaybeMark marks.And ∷ phrases.Name ∷ phrases.Names marks.And ∷ [])
  implements-is = mapped-is limits _ (then-is limits (keyword-is limits words.Implements) (names-is marks.And))

  members-is : Is limits members_at (phrases.Mark marks.Equals ∷ phrases.MaybeMark marks.Bar ∷ phrases.Name ∷ phrases.Names marks.Bar ∷ [])
  members-is = mapped-is limits _ (then-is limits (mark-is limits marks.Equals) (names-is marks.Bar))

  location-is : Is limits location_at (phrases.Location ∷ [])
  location-is = phrase-is limits location_at phrases.Location (λ ts. refl)

  locations-is : Is limits locations_at (phrases.Keyword words.On ∷ phrases.MaybeMark marks.Bar ∷ phrases.Location ∷ phrases.Locations ∷ [])
  locations-is = mapped-is limits _ (then-is limits (keyword-is limits words.On) (separated-is limits (punct "|") (phrases.MaybeMark marks.Bar) phrases.Locations (λ ts. refl) (λ ts. refl) location-is))

  directive-is : Is limits (directive_rest_at limits) (phrases.Keyword words.Directive ∷ phrases.Mark marks.At ∷ phrases.Name ∷ phrases.MaybeArgumentsDefinition ∷ phrases.MaybeRepeatable ∷ phrases.Keyword words.On ∷ phrases.MaybeMark marks.Bar ∷ phrases.Location ∷ phrases.Locations ∷ [])
  directive-is =
      then-is limits (keyword-is limits words.Directive) (then-is limits (mark-is limits marks.At) (then-is limits (name-is limits) (then-is limits maybe_arguments-is
      (then-is limits (phrase-is limits (opt_at (keyword "repeatable") (one_at (keyword "repeatable"))) phrases.MaybeRepeatable (λ ts. refl)) locations-is))))

  schema-is : Is limits (schema_rest_at limits) (phrases.Keyword words.Schema ∷ phrases.Directives false ∷ phrases.Mark marks.OpenBrace ∷ phrases.Root ∷ phrases.Roots ∷ phrases.Mark marks.CloseBrace ∷ [])
  schema-is = then-is limits (keyword-is limits words.Schema) (then-is limits constant-is roots-is)

  extended_schema-is : Is limits (extended_schema_at limits) (phrases.Keyword words.Schema ∷ phrases.RootParts ∷ [])
  extended_schema-is = then-is limits (keyword-is limits words.Schema) (phrase-is limits (some_parts_at true limits (punct "{") roots_at) phrases.RootParts (λ ts. refl))

  parts-is : {A : Type 0} (first : Test) (r : Reader (List A)) (maybe : Phrase) → ((ts : List Token) → ended (opt_at first r ts) ≡ phrase_at limits maybe ts) → Is limits (parts_at limits first r) (phrases.Directives false ∷ maybe ∷ [])
  parts-is first r maybe e = mapped-is limits parts_of (then-is limits constant-is (phrase-is limits (opt_at first r) maybe e))

  field_parts-is : Is limits (field_parts_at limits) (phrases.MaybeImplements ∷ phrases.Directives false ∷ phrases.MaybeFields ∷ [])
  field_parts-is = mapped-is limits members_of (then-is limits (phrase-is limits (opt_at (keyword "implements") implements_at) phrases.MaybeImplements (λ ts. refl)) (parts-is (punct "{") (fields_at limits) phrases.MaybeFields (λ ts. refl)))

  module _ (b : Bare) where
    -- where a part is owed
    owed-at : {A : Type 0} (extend : Bool) (first : Test) {r : Reader A} {ps : List Phrase} → Is limits r ps → IsAt limits b (owed_at extend first r) (cond (not extend || first b) ps (phrases.Never ∷ []))
    owed-at extend first {r = r} {ps = ps} h = record { by = by }
      where
        go : (t : Token) (ts : List Token) (x w : Bool) → first t.bare ≡ w → ended (owed_at x first r (t ∷ ts)) ≡ phrases_at limits (cond (not x || w) ps (phrases.Never ∷ [])) (t ∷ ts)
        go t ts false w e = h.by (t ∷ ts)
        go t ts true true e = ap (λ (w : Bool). ended (cond (true && not w) (Refused syntax (t ∷ ts)) (r (t ∷ ts)))) e ∙ h.by (t ∷ ts)
        go t ts true false e = ap (λ (w : Bool). ended (cond (true && not w) (Refused syntax (t ∷ ts)) (r (t ∷ ts)))) e

        by : (ts : List Token) → in_sight ts ≡ b ∷ [] → ended (owed_at extend first r ts) ≡ phrases_at limits (cond (not extend || first b) ps (phrases.Never ∷ [])) ts
        by [] seen = absurd cc
        by (t ∷ ts) seen = let same : t.bare ≡ b = cc in go t ts extend (first b) (ap first same)

    -- ---- definitions

    pub schema_definitions-productions : Consists limits b phrases.SchemaDefinitions (cond (definition_first b) (phrases.SchemaDefinition ∷ phrases.SchemaDefinitions ∷ []) [])
    schema_definitions-productions = record { by = (many-at limits b definition_first phrases.SchemaDefinitions (λ ts. refl) (takes-definition limits) (phrase-is limits (definition_at limits) phrases.SchemaDefinition (λ ts. refl))).by }

    pub schema_definition-productions : Consists limits b phrases.SchemaDefinition (cond (keyword "extend" b) (phrases.Keyword words.Extend ∷ phrases.Extended ∷ []) (phrases.MaybeDescription ∷ phrases.Undescribed ∷ []))
    schema_definition-productions = record {
      by = (choose-at limits b (keyword "extend")
          (at limits b (mapped-is limits extension_of (then-is limits (keyword-is limits words.Extend) (phrase-is limits (extended_at limits) phrases.Extended (λ ts. refl)))))
          (at limits b (mapped-is limits with_description (then-is limits description-is (phrase-is limits (undescribed_at limits) phrases.Undescribed (λ ts. refl)))))).by;
    }

    pub extended-productions : Consists limits b phrases.Extended (cond (keyword "schema" b) (phrases.Keyword words.Schema ∷ phrases.RootParts ∷ []) (phrases.TypeBody true ∷ []))
    extended-productions = record { by = (choose-at limits b (keyword "schema") (at limits b (mapped-is limits a_schema extended_schema-is)) (at limits b (mapped-is limits a_type (phrase-is limits (body_at true limits) (phrases.TypeBody true) (λ ts. refl))))).by }

    pub root_parts-productions : Consists limits b phrases.RootParts (cond (punct "@" b || punct "{" b) (phrases.Directives false ∷ phrases.MaybeRoots ∷ []) (phrases.Never ∷ []))
    root_parts-productions = record { by = (owed-at true (part_first (punct "{")) (parts-is (punct "{") roots_at phrases.MaybeRoots (λ ts. refl))).by }

    pub undescribed-productions : Consists limits b phrases.Undescribed (cond (keyword "schema" b) (phrases.Keyword words.Schema ∷ phrases.Directives false ∷ phrases.Mark marks.OpenBrace ∷ phrases.Root ∷ phrases.Roots ∷ phrases.Mark marks.CloseBrace ∷ []) (phrases.NoSchema ∷ []))
    undescribed-productions = record { by = (choose-at limits b (keyword "schema") {s = no_schema_at limits} (at limits b (mapped-is limits of_schema schema-is)) (at limits b (phrase-is limits (no_schema_at limits) phrases.NoSchema (λ ts. refl)))).by }

    pub no_schema-productions : Consists limits b phrases.NoSchema (cond (keyword "directive" b) (phrases.Keyword words.Directive ∷ phrases.Mark marks.At ∷ phrases.Name ∷ phrases.MaybeArgumentsDefinition ∷ phrases.MaybeRepeatable ∷ phrases.Keyword words.On ∷ phrases.MaybeMark marks.Bar ∷ phrases.Location ∷ phrases.Locations ∷ []) (phrases.TypeBody false ∷ []))
    no_schema-productions = record { by = (choose-at limits b (keyword "directive") (at limits b (mapped-is limits of_directive directive-is)) (at limits b (mapped-is limits of_type (phrase-is limits (body_at false limits) (phrases.TypeBody false) (λ ts. refl))))).by }

    pub repeatable-productions : Consists limits b phrases.MaybeRepeatable (cond (keyword "repeatable" b) (phrases.Keyword words.Repeatable ∷ []) [])
    repeatable-productions = record { by = (opt-at limits b (keyword "repeatable") (keyword-is limits words.Repeatable)).by }

    pub locations-productions : Consists limits b phrases.Locations (cond (punct "|" b) (phrases.Mark marks.Bar ∷ phrases.Location ∷ phrases.Locations ∷ []) [])
    locations-productions = record { by = (many-at limits b (punct "|") phrases.Locations (λ ts. refl) (takes-after (punct "|") location_at takes-location) (mapped-is limits _ (then-is limits (mark-is limits marks.Bar) location-is))).by }

    pub maybe_roots-productions : Consists limits b phrases.MaybeRoots (cond (punct "{" b) (phrases.Mark marks.OpenBrace ∷ phrases.Root ∷ phrases.Roots ∷ phrases.Mark marks.CloseBrace ∷ []) [])
    maybe_roots-productions = record { by = (opt-at limits b (punct "{") roots-is).by }

    pub roots-productions : Consists limits b phrases.Roots (cond (root_first b) (phrases.Root ∷ phrases.Roots ∷ []) [])
    roots-productions = record { by = (many-at limits b root_first phrases.Roots (λ ts. refl) takes-root (phrase-is limits root_at phrases.Root (λ ts. refl))).by }

    pub root-productions : Consists limits b phrases.Root (phrases.OperationType ∷ phrases.Mark marks.Colon ∷ phrases.Name ∷ [])
    root-productions = record { by = (at limits b root-is).by }

    pub description-productions : Consists limits b phrases.MaybeDescription (cond (is_text b) (phrases.Text ∷ []) [])
    description-productions = record { by = (opt-at limits b is_text (phrase-is limits description_at phrases.Text (λ ts. refl))).by }

    -- ---- types

    pub implements-productions : Consists limits b phrases.MaybeImplements (cond (keyword "implements" b) (phrases.Keyword words.Implements ∷ phrases.MaybeMark marks.And ∷ phrases.Name ∷ phrases.Names marks.And ∷ []) [])
    implements-productions = record { by = (opt-at limits b (keyword "implements") implements-is).by }

    pub names-productions : (mark : Mark) → Consists limits b (phrases.Names mark) (cond (punct (mark_text mark) b) (phrases.Mark mark ∷ phrases.Name ∷ phrases.Names mark ∷ []) [])
    names-productions mark = record { by = (many-at limits b (punct (mark_text mark)) (phrases.Names mark) (λ ts. refl) (takes-after (punct (mark_text mark)) name_at takes-name) (mapped-is limits _ (then-is limits (mark-is limits mark) own-name-is))).by }

    pub maybe_mark-productions : (mark : Mark) → Consists limits b (phrases.MaybeMark mark) (cond (punct (mark_text mark) b) (phrases.Mark mark ∷ []) [])
    maybe_mark-productions mark = record { by = (opt-at limits b (punct (mark_text mark)) (mark-is limits mark)).by }

    pub maybe_fields-productions : Consists limits b phrases.MaybeFields (cond (punct "{" b) (phrases.Mark marks.OpenBrace ∷ phrases.FieldDefinition ∷ phrases.FieldDefinitions ∷ phrases.Mark marks.CloseBrace ∷ []) [])
    maybe_fields-productions = record { by = (opt-at limits b (punct "{") (some-is marks.OpenBrace marks.CloseBrace member_first (field_definition_at limits) phrases.FieldDefinition phrases.FieldDefinitions (λ ts. refl) (λ ts. refl))).by }

    pub field-productions : Consists limits b phrases.FieldDefinition (phrases.MaybeDescription ∷ phrases.Name ∷ phrases.MaybeArgumentsDefinition ∷ phrases.Mark marks.Colon ∷ phrases.OwnType ∷ phrases.Directives false ∷ [])
    field-productions = record { by = (at limits b field-is).by }

    pub fields-productions : Consists limits b phrases.FieldDefinitions (cond (member_first b) (phrases.FieldDefinition ∷ phrases.FieldDefinitions ∷ []) [])
    fields-productions = record { by = (many-at limits b member_first phrases.FieldDefinitions (λ ts. refl) (takes-field_definition limits) (phrase-is limits (field_definition_at limits) phrases.FieldDefinition (λ ts. refl))).by }

    pub members-productions : Consists limits b phrases.MaybeMembers (cond (punct "=" b) (phrases.Mark marks.Equals ∷ phrases.MaybeMark marks.Bar ∷ phrases.Name ∷ phrases.Names marks.Bar ∷ []) [])
    members-productions = record { by = (opt-at limits b (punct "=") members-is).by }

    pub maybe_values-productions : Consists limits b phrases.MaybeEnumValues (cond (punct "{" b) (phrases.Mark marks.OpenBrace ∷ phrases.EnumValueDefinition ∷ phrases.EnumValueDefinitions ∷ phrases.Mark marks.CloseBrace ∷ []) [])
    maybe_values-productions = record { by = (opt-at limits b (punct "{") (some-is marks.OpenBrace marks.CloseBrace enum_value_first (enum_value_at limits) phrases.EnumValueDefinition phrases.EnumValueDefinitions (λ ts. refl) (λ ts. refl))).by }

    pub enum_value-productions : Consists limits b phrases.EnumValueDefinition (phrases.MaybeDescription ∷ phrases.EnumName ∷ phrases.Directives false ∷ [])
    enum_value-productions = record { by = (at limits b enum_value-is).by }

    pub enum_values-productions : Consists limits b phrases.EnumValueDefinitions (cond (enum_value_first b) (phrases.EnumValueDefinition ∷ phrases.EnumValueDefinitions ∷ []) [])
    enum_values-productions = record { by = (many-at limits b enum_value_first phrases.EnumValueDefinitions (λ ts. refl) (takes-enum_value limits) (phrase-is limits (enum_value_at limits) phrases.EnumValueDefinition (λ ts. refl))).by }

    pub input_fields-productions : Consists limits b phrases.MaybeInputFields (cond (punct "{" b) (phrases.Mark marks.OpenBrace ∷ phrases.InputValueDefinition ∷ phrases.InputValueDefinitions ∷ phrases.Mark marks.CloseBrace ∷ []) [])
    input_fields-productions = record { by = (opt-at limits b (punct "{") (some-is marks.OpenBrace marks.CloseBrace member_first (input_value_at limits) phrases.InputValueDefinition phrases.InputValueDefinitions (λ ts. refl) (λ ts. refl))).by }

    pub maybe_arguments-productions : Consists limits b phrases.MaybeArgumentsDefinition (cond (punct "(" b) (phrases.Mark marks.OpenParen ∷ phrases.InputValueDefinition ∷ phrases.InputValueDefinitions ∷ phrases.Mark marks.CloseParen ∷ []) [])
    maybe_arguments-productions = record { by = (opt-at limits b (punct "(") arguments-is).by }

    pub input_value-productions : Consists limits b phrases.InputValueDefinition (phrases.MaybeDescription ∷ phrases.Name ∷ phrases.Mark marks.Colon ∷ phrases.OwnType ∷ phrases.MaybeDefault ∷ phrases.Directives false ∷ [])
    input_value-productions = record { by = (at limits b input_value-is).by }

    pub input_values-productions : Consists limits b phrases.InputValueDefinitions (cond (member_first b) (phrases.InputValueDefinition ∷ phrases.InputValueDefinitions ∷ []) [])
    input_values-productions = record { by = (many-at limits b member_first phrases.InputValueDefinitions (λ ts. refl) (takes-input_value limits) (phrase-is limits (input_value_at limits) phrases.InputValueDefinition (λ ts. refl))).by }

    -- ---- after the name of a type

    abbrev constant : Phrase
    constant = phrases.Directives false

    pub scalar-productions : (extend : Bool) → Consists limits b (phrases.Rest extend kinds.Scalar) (cond (not extend || punct "@" b) (constant ∷ []) (phrases.Never ∷ []))
    scalar-productions extend = record { by = (mapped-at limits b _ (owed-at extend (punct "@") constant-is)).by }

    pub object-productions : (extend : Bool) → Consists limits b (phrases.Rest extend kinds.Type) (cond (not extend || field_part_first b) (phrases.MaybeImplements ∷ constant ∷ phrases.MaybeFields ∷ []) (phrases.Never ∷ []))
    object-productions extend = record { by = (mapped-at limits b _ (owed-at extend field_part_first field_parts-is)).by }

    pub interface-productions : (extend : Bool) → Consists limits b (phrases.Rest extend kinds.Interface) (cond (not extend || field_part_first b) (phrases.MaybeImplements ∷ constant ∷ phrases.MaybeFields ∷ []) (phrases.Never ∷ []))
    interface-productions extend = record { by = (mapped-at limits b _ (owed-at extend field_part_first field_parts-is)).by }

    pub union-productions : (extend : Bool) → Consists limits b (phrases.Rest extend kinds.Union) (cond (not extend || part_first (punct "=") b) (constant ∷ phrases.MaybeMembers ∷ []) (phrases.Never ∷ []))
    union-productions extend = record { by = (mapped-at limits b _ (owed-at extend (part_first (punct "=")) (parts-is (punct "=") members_at phrases.MaybeMembers (λ ts. refl)))).by }

    pub enum-productions : (extend : Bool) → Consists limits b (phrases.Rest extend kinds.Enum) (cond (not extend || part_first (punct "{") b) (constant ∷ phrases.MaybeEnumValues ∷ []) (phrases.Never ∷ []))
    enum-productions extend = record { by = (mapped-at limits b _ (owed-at extend (part_first (punct "{")) (parts-is (punct "{") (enum_values_at limits) phrases.MaybeEnumValues (λ ts. refl)))).by }

    pub input-productions : (extend : Bool) → Consists limits b (phrases.Rest extend kinds.Input) (cond (not extend || part_first (punct "{") b) (constant ∷ phrases.MaybeInputFields ∷ []) (phrases.Never ∷ []))
    input-productions extend = record { by = (mapped-at limits b _ (owed-at extend (part_first (punct "{")) (parts-is (punct "{") (input_fields_at limits) phrases.MaybeInputFields (λ ts. refl)))).by }

    -- ---- from the keyword of a type on

    module _ (extend : Bool) where
      abbrev bodied : Keyword × Word → List Phrase
      bodied x = phrases.Keyword x.0 ∷ phrases.Name ∷ phrases.Rest extend x.1 ∷ []

      worded-is : (x : Keyword × Word) → Is limits (a_body_at (keyword_text x.0) (rest_at extend limits x.1)) (bodied x)
      worded-is x = mapped-is limits body_of (then-is limits (keyword-is limits x.0) (then-is limits (name-is limits) (phrase-is limits (rest_at extend limits x.1) (phrases.Rest extend x.1) (λ ts. refl))))

      choose-word : (x y : Keyword × Word) {s : Reader Body} → IsAt limits b s (bodied y) → IsAt limits b (choose_at (keyword (keyword_text x.0)) (a_body_at (keyword_text x.0) (rest_at extend limits x.1)) s) (bodied (cond (keyword (keyword_text x.0) b) x y))
      choose-word x y {s = s} h = record { by = λ ts seen. go ts seen (keyword (keyword_text x.0) b) refl }
        where
          own : Reader Body
          own = a_body_at (keyword_text x.0) (rest_at extend limits x.1)

          go : (ts : List Token) → in_sight ts ≡ b ∷ [] → (w : Bool) → keyword (keyword_text x.0) b ≡ w → ended (choose_at (keyword (keyword_text x.0)) own s ts) ≡ phrases_at limits (bodied (cond (keyword (keyword_text x.0) b) x y)) ts
          go ts seen true is = ap ended (chosen (keyword (keyword_text x.0)) own s true b ts seen is) ∙ (worded-is x).by ts ∙ ap (λ (w : Bool). phrases_at limits (bodied (cond w x y)) ts) (sym is)
          go ts seen false is = ap ended (chosen (keyword (keyword_text x.0)) own s false b ts seen is) ∙ h.by ts seen ∙ ap (λ (w : Bool). phrases_at limits (bodied (cond w x y)) ts) (sym is)

      by-word : IsAt limits b (body_at extend limits) (bodied (word_by b))
      by-word =
          choose-word (words.Scalar, kinds.Scalar) _
          (choose-word (words.Type, kinds.Type) _
          (choose-word (words.Interface, kinds.Interface) _
          (choose-word (words.Union, kinds.Union) _
          (choose-word (words.Enum, kinds.Enum) (words.Input, kinds.Input) (at limits b (worded-is (words.Input, kinds.Input)))))))

      pub body-productions : (x : Keyword × Word) → x ≡ word_by b → Consists limits b (phrases.TypeBody extend) (phrases.Keyword x.0 ∷ phrases.Name ∷ phrases.Rest extend x.1 ∷ [])
      body-productions x e = subst (λ (x : Keyword × Word). Consists limits b (phrases.TypeBody extend) (bodied x)) (sym e) (record { by = by-word.by })
