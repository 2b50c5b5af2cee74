-- What is printed of the body of a type is this body again, but for places.
use Rattle.std.proofs.Common.{◌≡◌, ℕ, false, Option, Some, None, List, [], ◌∷◌, ◌++◌, map, codes, refl, sym, ap, ◌∙◌, append-nil}
use Rattle.graphql_tokens.specs.declared.pos.Positioned.{Positioned}
use Rattle.graphql_tokens.specs.tokens.Edition.{Current}
use Rattle.graphql_tokens.specs.tokens.Token.{Bare, Token}
use Rattle.graphql_syntax.specs.trees.Parts.{Directives}
use Rattle.graphql_trees.specs.trees.Schema.{Names, FieldDefinition, object, interface, union, enumeration, input_object}
use Rattle.graphql_reading.specs.grammar.Limits.{Limits}
use Rattle.graphql_reading.specs.grammar.Relations.{Rel, ◌∪◌, mapped, given}
use Rattle.graphql_reading.proofs.IgnoresPlaces.{map-given}
use Rattle.graphql_grammar.specs.grammar.Arguments.{directives}
use Rattle.graphql_grammar.specs.grammar.Placeless.{unplaced, bare_node, placeless_directives}
use Rattle.graphql_schemas.specs.grammar.Placeless.{placeless_field}
use Rattle.graphql_schemas.specs.grammar.Types.{parts_of, parts, list_alone, some_parts, Members, members_of, field_parts, no_interfaces, some_field_parts, Rest, Body, body_of, a_body, scalar_rest, fields_rest, list_rest, body, extended_body}
use Rattle.graphql_schemas.proofs.BodyProductions.{placeless-rest, placeless-body}
use Rattle.graphql_schemas.proofs.FieldPartProductions.{placeless-members}
use Rattle.graphql_schemas.proofs.PartProductions.{placeless-parts}
use Rattle.graphql_printer.specs.inner.Shown.{word, shown_node, shown_part, shown_between, shown_directives}
use Rattle.graphql_printer.specs.inner.ShownSchemas.{shown_field, shown_implements, kind_word, shown_interfaces, shown_contents}
use Rattle.graphql_printer.proofs.Reprints.{Reprints, reprints-name, reprints-keyword, reprints-shown, reprints-then, reprints-mapped, reprints-either, reprints-plus, reprints-opt}
use Rattle.graphql_printer.proofs.ShownParts.{reprints-directive, reprints-directives}
use Rattle.graphql_printer.proofs.SchemaParts.{reprints-implements, reprints-members, reprints-fields, reprints-enum_values, reprints-input_fields}
use Prim.Native.String.{String}

-- ---- directives, and a list

-- a list that isn't there is shown as an empty one
pub given-shown : {A : Type 0} (shown : List A → List Bare) → shown [] ≡ [] → (list : Option (List A)) → shown_part shown list ≡ shown (given list)
given-shown shown empty None = sym empty
given-shown shown empty (Some list) = refl

abbrev pub shown_parts : {A : Type 0} → (List A → List Bare) → Directives × List A → List Bare
shown_parts shown (directives, list) = shown_directives directives ++ shown list

pub reprints-parts : {A : Type 0} {p : Limits → Rel (List A)} {f : A → A} {shown : List A → List Bare} → shown [] ≡ [] → Reprints p (map f) shown → Reprints (λ c. parts Current c (p c)) (placeless-parts f) (shown_parts shown)
reprints-parts {A} {f = f} {shown = shown} empty h =
    reprints-mapped {k = parts_of} (shown_parts shown) (λ x. ap (λ (l : List A). (placeless_directives x.0, l)) (map-given f x.1)) (λ x. ap (λ (l : List Bare). shown_directives x.0 ++ l) (given-shown shown empty x.1))
    (reprints-then (reprints-directives false) (reprints-opt h))

pub reprints-some_parts : {A : Type 0} {p : Limits → Rel (List A)} {f : A → A} {shown : List A → List Bare} → shown [] ≡ [] → Reprints p (map f) shown → Reprints (λ c. some_parts Current c (p c)) (placeless-parts f) (shown_parts shown)
reprints-some_parts {A} {f = f} {shown = shown} empty h =
    reprints-either (reprints-mapped {k = parts_of} (shown_parts shown) (λ x. ap (λ (l : List A). (placeless_directives x.0, l)) (map-given f x.1)) (λ x. ap (λ (l : List Bare). shown_directives x.0 ++ l) (given-shown shown empty x.1))
    (reprints-then (reprints-plus (reprints-directive false)) (reprints-opt h)))
    (reprints-mapped {k = list_alone} (shown_parts shown) (λ x. refl) (λ x. refl) h)

-- ---- interfaces, directives and fields

abbrev shown_fields : List (Positioned FieldDefinition) → List Bare
shown_fields fields = shown_between "{" "}" (shown_node shown_field) fields

abbrev shown_member_parts : Members → List Bare
shown_member_parts (interfaces, parts) = shown_implements interfaces ++ shown_parts shown_fields parts

reprints-field_parts : Reprints (field_parts Current) placeless-members shown_member_parts
reprints-field_parts =
    reprints-mapped {k = members_of} shown_member_parts (λ x. ap (λ (l : Names). (l, placeless-parts (unplaced placeless_field) x.1)) (map-given bare_node x.0)) (λ x. ap (λ (l : List Bare). l ++ shown_parts shown_fields x.1) (given-shown shown_implements refl x.0))
    (reprints-then (reprints-opt reprints-implements) (reprints-parts refl reprints-fields))

reprints-some_field_parts : Reprints (some_field_parts Current) placeless-members shown_member_parts
reprints-some_field_parts =
    reprints-either (reprints-then reprints-implements (reprints-parts refl reprints-fields))
    (reprints-mapped {k = no_interfaces} shown_member_parts (λ x. refl) (λ x. refl) (reprints-some_parts refl reprints-fields))

-- ---- what a body says after its name

abbrev shown_rest : Rest → List Bare
shown_rest (directives, kind) = shown_interfaces kind ++ (shown_directives directives ++ shown_contents kind)

-- a rest that is of a kind with this keyword, whatever its tokens are
record IsRest (rest : Limits → Rel Rest) (keyword : String) : Type 0 where
  reprints : Reprints rest placeless-rest shown_rest
  is_kind : (c : Limits) (x : List Token) (r : Rest) → rest c x r → kind_word r.1 ≡ codes keyword

rest-is : {B : Type 0} {p : Limits → Rel B} {g : B → B} {shown : B → List Bare} {keyword : String} (k : B → Rest) → ((b : B) → placeless-rest (k b) ≡ k (g b)) → ((b : B) → shown b ≡ shown_rest (k b)) → ((b : B) → kind_word (k b).1 ≡ codes keyword)
    → Reprints p g shown → IsRest (λ c. mapped k (p c)) keyword
rest-is k away same is h = record { reprints = reprints-mapped {k = k} shown_rest away same h; is_kind = λ c x r m. ap (λ (r : Rest). kind_word r.1) m.is ∙ is m.value }

-- ---- bodies

abbrev pub shown_body : Body → List Bare
shown_body (token, (name, rest)) = word (kind_word rest.1) ∷ word name.node ∷ shown_rest rest

reprints-a_body : {rest : Limits → Rel Rest} (keyword : String) → IsRest rest keyword → Reprints (λ c. a_body keyword (rest c)) placeless-body shown_body
reprints-a_body {rest} keyword h =
    reprints-shown shown_body (λ c x b m. ap (λ (k : List ℕ). word k ∷ word b.1.0.node ∷ shown_rest b.1.1) (sym (ap (λ (b : Body). kind_word b.1.1.1) m.is ∙ h.is_kind c m.holds.second.back m.value.1.1 m.holds.second.second)))
    (reprints-mapped {k = body_of} (λ b. word (codes keyword) ∷ word b.1.0.node ∷ shown_rest b.1.1) (λ x. refl) (λ x. refl)
    (reprints-then (reprints-keyword keyword) (reprints-then reprints-name h.reprints)))

-- the six kinds, whatever their rests say
reprints-bodies : {s o i u e n : Limits → Rel Rest} → IsRest s "scalar" → IsRest o "type" → IsRest i "interface" → IsRest u "union" → IsRest e "enum" → IsRest n "input"
    → Reprints (λ c. a_body "scalar" (s c) ∪ a_body "type" (o c) ∪ a_body "interface" (i c) ∪ a_body "union" (u c) ∪ a_body "enum" (e c) ∪ a_body "input" (n c)) placeless-body shown_body
reprints-bodies a-scalar an-object an-interface a-union an-enum an-input =
    reprints-either (reprints-a_body "scalar" a-scalar)
    (reprints-either (reprints-a_body "type" an-object)
    (reprints-either (reprints-a_body "interface" an-interface)
    (reprints-either (reprints-a_body "union" a-union)
    (reprints-either (reprints-a_body "enum" an-enum)
    (reprints-a_body "input" an-input)))))

scalar-shown : (directives : Directives) → shown_directives directives ≡ shown_rest (scalar_rest directives)
scalar-shown directives = sym (append-nil (shown_directives directives))

pub reprints-body : Reprints (body Current) placeless-body shown_body
reprints-body =
    reprints-bodies (rest-is scalar_rest (λ x. refl) scalar-shown (λ x. refl) (reprints-directives false))
    (rest-is (fields_rest object) (λ x. refl) (λ x. refl) (λ x. refl) reprints-field_parts)
    (rest-is (fields_rest interface) (λ x. refl) (λ x. refl) (λ x. refl) reprints-field_parts)
    (rest-is (list_rest union) (λ x. refl) (λ x. refl) (λ x. refl) (reprints-parts refl reprints-members))
    (rest-is (list_rest enumeration) (λ x. refl) (λ x. refl) (λ x. refl) (reprints-parts refl reprints-enum_values))
    (rest-is (list_rest input_object) (λ x. refl) (λ x. refl) (λ x. refl) (reprints-parts refl reprints-input_fields))

pub reprints-extended_body : Reprints (extended_body Current) placeless-body shown_body
reprints-extended_body =
    reprints-bodies (rest-is scalar_rest (λ x. refl) scalar-shown (λ x. refl) (reprints-plus (reprints-directive false)))
    (rest-is (fields_rest object) (λ x. refl) (λ x. refl) (λ x. refl) reprints-some_field_parts)
    (rest-is (fields_rest interface) (λ x. refl) (λ x. refl) (λ x. refl) reprints-some_field_parts)
    (rest-is (list_rest union) (λ x. refl) (λ x. refl) (λ x. refl) (reprints-some_parts refl reprints-members))
    (rest-is (list_rest enumeration) (λ x. refl) (λ x. refl) (λ x. refl) (reprints-some_parts refl reprints-enum_values))
    (rest-is (list_rest input_object) (λ x. refl) (λ x. refl) (λ x. refl) (reprints-some_parts refl reprints-input_fields))
