-- What is printed of the parts of a schema file is these parts again, but for places.
use Rattle.std.proofs.Common.{◌≡◌, Bool, true, false, ◌&&◌, if◌then◌else◌, inl, inr, Option, option_map, List, [], ◌∷◌, map, refl, ap, ◌∙◌, sym, subst, ℕ}
use Rattle.std.proofs.lemmas.Str.{encodes-chars}
use Rattle.std.specs.Str.{chars, IsUtf8, encode_utf8_all}
use Rattle.graphql_tokens.specs.declared.pos.Positioned.{Positioned}
use Rattle.graphql_tokens.specs.tokens.Edition.{Current}
use Rattle.graphql_tokens.specs.tokens.Token.{Bare, Token}
use Rattle.graphql_syntax.specs.trees.Parts.{Directives}
use Rattle.graphql_syntax.specs.trees.TypeTree.{TypeTree}
use Rattle.graphql_trees.specs.trees.Schema.{Description, InputValues, FieldDefinition}
use Rattle.graphql_reading.specs.grammar.Fronts.{bares, without_place}
use Rattle.graphql_reading.specs.grammar.Limits.{Limits}
use Rattle.graphql_reading.specs.grammar.Places.{nowhere}
use Rattle.graphql_reading.specs.grammar.Relations.{Rel, one, opt, given, after, after_of, separated, separated_of}
use Rattle.graphql_reading.specs.grammar.Tests.{Test, punct, keyword}
use Rattle.graphql_reading.proofs.IgnoresPlaces.{map-given}
use Rattle.graphql_reading.proofs.TokenTests.{any_name-is}
use Rattle.graphql_grammar.specs.grammar.Placeless.{unplaced, bare_node}
use Rattle.graphql_schemas.specs.grammar.Descriptions.{text_of, a_description, described}
use Rattle.graphql_schemas.specs.grammar.Directives.{a_location}
use Rattle.graphql_schemas.specs.grammar.Fields.{field_definition_of, a_field_definition, fields}
use Rattle.graphql_schemas.specs.grammar.InputValues.{input_value_of, an_input_value, arguments_definition, input_fields}
use Rattle.graphql_schemas.specs.grammar.Members.{a_name, implements, members, enum_value_of, an_enum_value, enum_values}
use Rattle.graphql_schemas.specs.grammar.Placeless.{placeless_description, placeless_names, placeless_input_value, placeless_input_values, placeless_field, placeless_enum_value}
use Rattle.graphql_schemas.proofs.DescriptionProductions.{described-nowhere}
use Rattle.graphql_layout.specs.texts.Blocks.{feed, may_be_block}
use Rattle.graphql_layout.proofs.BlockTexts.{block_spelled, value_kept}
use Rattle.graphql_printer.specs.Controls.{IsClear, are_clear}
use Rattle.graphql_printer.specs.inner.Shown.{shown_node, sign, word, quoted, shown_between, shown_separated}
use Rattle.graphql_printer.specs.inner.ShownSchemas.{in_block, fits_block, shown_text, shown_description, shown_name, shown_led, shown_input_value, shown_parameters, shown_field, shown_enum_value, shown_implements, shown_members, shown_location, shown_locations}
use Rattle.graphql_printer.proofs.Reprints.{AreSpelled, AreShown, Again, Reprints, again-as, reprints-name, reprints-keyword, reprints-punct, reprints-shown, reprints-first, reprints-then, reprints-mapped, reprints-opt, reprints-listed, reprints-maybe_listed, reprints-separated}
use Rattle.graphql_printer.proofs.ShownParts.{reprints-type, reprints-default, reprints-directives}
use Rattle.graphql_printer.proofs.ShownValues.{reprints-name_but, reprints-strings, blocks-as_strings, strings_utf8, blocks_utf8}
use Prim.Native.String.{String}

-- ---- names, and lists with a sign between each two members

pub reprints-a_name : Reprints (λ c. a_name) bare_node (shown_node shown_name)
reprints-a_name = reprints-mapped (shown_node shown_name) (λ t. refl) (λ t. refl) reprints-name

-- a list of one or more after a token
reprints-led : {A : Type 0} (lead : Test) {b : Bare} (mark : String) {p : Limits → Rel A} {f : A → A} {shown : A → List Bare} → Reprints (λ c. one lead) without_place (λ t. b ∷ []) → Reprints p f shown
    → Reprints (λ c. after lead (separated (punct mark) (p c))) (map f) (shown_led b (sign mark) shown)
reprints-led {A} lead {b} mark {p} {f} {shown} led h =
    reprints-shown (shown_led b (sign mark) shown) (λ c x list m. some list m.holds.second.value (m.is ∙ m.holds.second.is))
    (reprints-mapped {k = after_of} (λ list. b ∷ shown_separated mark shown list) (λ x. refl) (λ x. refl) (reprints-then led (reprints-separated mark h)))
  where
    some : (list : List A) (v : Option Token × (A × List A)) → list ≡ separated_of v → b ∷ shown_separated mark shown list ≡ shown_led b (sign mark) shown list
    some [] v e = absurd cc
    some (a ∷ others) v e = refl

pub reprints-implements : Reprints (λ c. implements) placeless_names shown_implements
reprints-implements = reprints-led (keyword "implements") "&" (reprints-keyword "implements") reprints-a_name

pub reprints-members : Reprints (λ c. members) placeless_names shown_members
reprints-members = reprints-led (punct "=") "|" (reprints-punct "=") reprints-a_name

-- ---- descriptions

-- whichever string a description was, it can be shown as one in quotes
reprints-quoted : Reprints (λ c. a_description Current) bare_node (shown_node (λ text. quoted text ∷ []))
reprints-quoted =
    reprints-first (reprints-strings text_of bare_node (shown_node (λ text. quoted text ∷ [])) (λ t u s. refl) (λ t s. refl))
    (blocks-as_strings text_of bare_node (shown_node (λ text. quoted text ∷ [])) (λ t u s. refl) (λ t s. refl))

text_utf8 : (x : List Token) (d : Positioned (List ℕ)) → a_description Current x d → AreSpelled x → IsUtf8 d.node
text_utf8 x d (inl m) s = subst IsUtf8 (ap (λ (d : Positioned (List ℕ)). d.node) (sym m.is)) (strings_utf8 x d m s)
text_utf8 x d (inr m) s = subst IsUtf8 (ap (λ (d : Positioned (List ℕ)). d.node) (sym m.is)) (blocks_utf8 x d m s)

split : (a b : Bool) → (a && b) ≡ true → (a ≡ true) × (b ≡ true)
split true b e = (refl, e)
split false b e = absurd cc

-- and as a block string that keeps it
again-block : (d : Positioned (List ℕ)) → IsUtf8 d.node → fits_block (chars d.node) ≡ true → Again (a_description Current) bare_node (in_block d.node ∷ []) d
again-block d u fits =
    let both = split (may_be_block (chars d.node)) (are_clear (chars d.node)) fits in
    let kept = both.0 in
    let token : Token = record { bare = in_block d.node; start = 0; pos = nowhere } in
    record {
      tokens = token ∷ [];
      are = refl;
      spelled = ((block_spelled (feed 0) d.node u, ap are_clear (value_kept d.node u kept (feed 0)) ∙ both.1), tt);
      tree = text_of (token, d.node);
      holds = inr (record { value = (token, d.node); holds = (refl, refl, sym (encodes-chars d.node u) ∙ ap encode_utf8_all (sym (value_kept d.node u kept (feed 0)))); is = refl });
      same = refl;
    }

reprints-description : Reprints (λ c. a_description Current) bare_node (shown_node shown_text)
reprints-description = record { by = λ c x d m s. go c x d m s (fits_block (chars d.node)) refl }
  where
    go : (c : Limits) (x : List Token) (d : Positioned (List ℕ)) → a_description Current x d → AreSpelled x → (b : Bool) → fits_block (chars d.node) ≡ b → Again (a_description Current) bare_node (shown_node shown_text d) d
    go c x d m s true e = again-as (ap (λ (b : Bool). (if b then in_block d.node else quoted d.node) ∷ []) (sym e)) (again-block d (text_utf8 x d m s) e)
    go c x d m s false e = again-as (ap (λ (b : Bool). (if b then in_block d.node else quoted d.node) ∷ []) (sym e)) (reprints-quoted.by c x d m s)

pub reprints-maybe_description : Reprints (λ c. opt (a_description Current)) placeless_description shown_description
reprints-maybe_description = reprints-opt (reprints-description)

-- ---- input values

pub reprints-input_value : Reprints (an_input_value Current) (unplaced placeless_input_value) (shown_node shown_input_value)
reprints-input_value =
    reprints-mapped {k = input_value_of} (shown_node shown_input_value) (λ x. described-nowhere placeless_input_value x.0 x.1.0 (input_value_of x).node) (λ x. refl)
    (reprints-then (reprints-maybe_description) (reprints-then reprints-name (reprints-then (reprints-punct ":") (reprints-then reprints-type (reprints-then (reprints-opt reprints-default) (reprints-directives false))))))

pub reprints-maybe_parameters : Reprints (λ c. opt (arguments_definition Current c)) (option_map placeless_input_values) (λ values. shown_parameters (given values))
reprints-maybe_parameters = reprints-maybe_listed "(" ")" (reprints-input_value)

pub reprints-input_fields : Reprints (input_fields Current) placeless_input_values (shown_between "{" "}" (shown_node shown_input_value))
reprints-input_fields = reprints-listed "{" "}" reprints-input_value

-- ---- fields

-- the field without places, with these arguments
abbrev with-arguments : Description × (Token × (Option InputValues × (Token × (Positioned TypeTree × Directives)))) → InputValues → Positioned FieldDefinition
with-arguments x arguments = described (placeless_description x.0) (without_place x.1.0) (record (placeless_field (field_definition_of x).node) { arguments = arguments })

reprints-field : Reprints (a_field_definition Current) (unplaced placeless_field) (shown_node shown_field)
reprints-field =
    reprints-mapped {k = field_definition_of} (shown_node shown_field) (λ x. described-nowhere placeless_field x.0 x.1.0 (field_definition_of x).node ∙ ap (with-arguments x) (map-given (unplaced placeless_input_value) x.1.1.0)) (λ x. refl)
    (reprints-then reprints-maybe_description (reprints-then reprints-name (reprints-then reprints-maybe_parameters (reprints-then (reprints-punct ":") (reprints-then reprints-type (reprints-directives false))))))

pub reprints-fields : Reprints (fields Current) (map (unplaced placeless_field)) (shown_between "{" "}" (shown_node shown_field))
reprints-fields = reprints-listed "{" "}" reprints-field

-- ---- values of an enum

reprints-enum_value : Reprints (an_enum_value Current) (unplaced placeless_enum_value) (shown_node shown_enum_value)
reprints-enum_value =
    reprints-mapped {k = enum_value_of} (shown_node shown_enum_value) (λ x. described-nowhere placeless_enum_value x.0 x.1.0 (enum_value_of x).node) (λ x. refl)
    (reprints-then reprints-maybe_description (reprints-then (reprints-name_but ("true" ∷ "false" ∷ "null" ∷ [])) (reprints-directives false)))

pub reprints-enum_values : Reprints (enum_values Current) (map (unplaced placeless_enum_value)) (shown_between "{" "}" (shown_node shown_enum_value))
reprints-enum_values = reprints-listed "{" "}" reprints-enum_value

-- ---- locations

pub reprints-location : Reprints (λ c. a_location) bare_node (shown_node shown_location)
reprints-location = record {
  by = λ c x location m s. record {
    tokens = x;
    are =
        ap bares m.holds.0
        ∙ ap (λ (b : Bare). b ∷ []) (any_name-is m.value.0.bare m.holds.1)
        ∙ ap (λ (spelling : List ℕ). word spelling ∷ []) m.holds.2
        ∙ ap (shown_node shown_location) (sym m.is);
    spelled = subst AreShown (sym m.holds.0) (((subst AreSpelled m.holds.0 s).0, subst IsClear (sym (any_name-is m.value.0.bare m.holds.1)) tt), tt);
    tree = location;
    holds = m;
    same = refl;
  };
}

-- DirectiveLocations, with the word that they stand after
pub reprints-locations : Reprints (λ c. after (keyword "on") (separated (punct "|") a_location)) (map bare_node) shown_locations
reprints-locations = reprints-led (keyword "on") "|" (reprints-keyword "on") reprints-location
