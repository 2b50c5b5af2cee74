-- Fields of types are read exactly, at every budget; and their places don't matter.
use Rattle.std.proofs.Common.{false, Option, map, refl, ap, ◌∙◌}
use Rattle.graphql_tokens.specs.declared.pos.Positioned.{Positioned}
use Rattle.graphql_tokens.specs.tokens.Edition.{Current}
use Rattle.graphql_tokens.specs.tokens.Token.{Token}
use Rattle.graphql_syntax.specs.trees.Parts.{Directives}
use Rattle.graphql_trees.specs.trees.Schema.{Description, InputValues, FieldDefinition}
use Rattle.graphql_syntax.specs.trees.TypeTree.{TypeTree}
use Rattle.graphql_grammar.specs.grammar.Arguments.{directives}
use Rattle.graphql_grammar.specs.grammar.Placeless.{unplaced}
use Rattle.graphql_grammar.specs.grammar.Types.{type_reference}
use Rattle.graphql_reading.specs.grammar.Fronts.{without_place}
use Rattle.graphql_reading.specs.grammar.Limits.{Limits}
use Rattle.graphql_reading.specs.grammar.Relations.{Rel, one, ◌⨾◌}
use Rattle.graphql_reading.specs.grammar.Tests.{Test, punct, any_name}
use Rattle.graphql_reading.proofs.Theory.{IsSubset, outside}
use Rattle.graphql_reading.proofs.TokenTests.{itself, punct-within, name-sample}
use Rattle.graphql_reading.proofs.PunctSamples.{has-close_object, has-colon}
use Rattle.graphql_reading.proofs.ReadsExactly.{ReadsExactly, HasPhrase, BeginsWith, exact-punct, exact-name, exact-mapped, exact-next, exact-then-some, begins-one, begins-mapped, begins-then, has-token, has-pair, has-map, has-plus}
use Rattle.graphql_reading.proofs.Extra.{exact-seq, exact-plus-ahead}
use Rattle.graphql_reading.proofs.IgnoresPlaces.{IgnoresPlaces, ignores-one, ignores-then, ignores-mapped, ignores-plus, map-given}
use Rattle.graphql_reading.proofs.Marks.{exact-between, begins-between, ignores-between}
use Rattle.graphql_reading.proofs.Loop.{Takes, takes-one}
use Rattle.graphql_grammar.proofs.TypeProductions.{exact-type, has-type, ignores-type}
use Rattle.graphql_grammar.proofs.ArgumentProductions.{exact-directives, first-directives, has-directives, ignores-directives}
use Rattle.graphql_schemas.specs.grammar.Descriptions.{described}
use Rattle.graphql_schemas.specs.grammar.Fields.{field_definition_of, a_field_definition, fields}
use Rattle.graphql_schemas.specs.grammar.Placeless.{placeless_description, placeless_input_value, placeless_field}
use Rattle.graphql_schemas.specs.reading.Fields.{field_definition_at, fields_at}
use Rattle.graphql_schemas.specs.reading.InputValues.{member_first}
use Rattle.graphql_schemas.proofs.DescriptionProductions.{described-nowhere, name-no-text, exact-maybe_description, has-maybe_description, ignores-maybe_description}
use Rattle.graphql_schemas.proofs.InputValueProductions.{begins-member, after_member, member-goes-on, members-outside, exact-maybe_arguments_definition, has-maybe_arguments_definition, ignores-maybe_arguments_definition}

-- a type, and the directives of the field
abbrev typed : Limits → Rel (Token × (Positioned TypeTree × Directives))
typed c = one (punct ":") ⨾ type_reference c.types ⨾ directives Current false c.values

has-typed : HasPhrase typed
has-typed = has-pair has-colon (has-pair has-type (has-directives false))

-- `!` belongs to the type, `@` and `(` to the directives
pub exact-field_definition : {b : Limits} {f : Test} → IsSubset f (outside (punct "!")) → IsSubset f (outside (punct "(")) → IsSubset f (outside (punct "@")) → ReadsExactly (a_field_definition Current) b f (field_definition_at b)
exact-field_definition marked away last =
    exact-mapped (exact-then-some {g = any_name} (begins-then begins-one) (has-pair (has-token name-sample) (has-pair has-maybe_arguments_definition has-typed)) (exact-maybe_description name-no-text)
    (exact-next (has-pair has-maybe_arguments_definition has-typed) exact-name
    (exact-then-some {g = punct ":"} (begins-then begins-one) has-typed (exact-maybe_arguments_definition (punct-within ":" refl))
    (exact-next (has-pair has-type (has-directives false)) (exact-punct ":")
    (exact-seq {g = outside (punct "!")} (first-directives false refl marked) (has-directives false) (exact-type itself)
    (exact-directives false away last))))))

pub begins-field_definition : BeginsWith (a_field_definition Current) member_first
begins-field_definition = begins-mapped (begins-member (begins-then begins-one))

pub has-field_definition : HasPhrase (a_field_definition Current)
has-field_definition = has-map (has-pair has-maybe_description (has-pair (has-token name-sample) (has-pair has-maybe_arguments_definition has-typed)))

-- the field without places, with these arguments
abbrev with-arguments : Description × (Token × (Option InputValues × (Token × (Positioned TypeTree × Directives)))) → InputValues → Positioned FieldDefinition
with-arguments x arguments = described (placeless_description x.0) (without_place x.1.0) (record (placeless_field (field_definition_of x).node) { arguments = arguments })

pub ignores-field_definition : IgnoresPlaces (a_field_definition Current) (unplaced placeless_field)
ignores-field_definition =
    ignores-mapped {k = field_definition_of} (λ x. described-nowhere placeless_field x.0 x.1.0 (field_definition_of x).node ∙ ap (with-arguments x) (map-given (unplaced placeless_input_value) x.1.1.0))
    (ignores-then ignores-maybe_description (ignores-then (ignores-one any_name (λ spelling. refl)) (ignores-then ignores-maybe_arguments_definition (ignores-then (ignores-one (punct ":") (λ spelling. refl)) (ignores-then ignores-type (ignores-directives false))))))

-- another one or a bracket follows
exact-next-field_definition : {b : Limits} → ReadsExactly (a_field_definition Current) b after_member (field_definition_at b)
exact-next-field_definition = exact-field_definition (members-outside "!" refl refl) (members-outside "(" refl refl) (members-outside "@" refl refl)

pub takes-field_definition : (limits : Limits) → Takes (field_definition_at limits)
takes-field_definition limits = takes-one {b = limits} exact-next-field_definition begins-field_definition

pub exact-fields : {b : Limits} {f : Test} → ReadsExactly (fields Current) b f (fields_at b)
exact-fields = exact-between "{" "}" has-close_object (has-plus has-field_definition) (exact-plus-ahead {g = after_member} begins-field_definition member-goes-on (punct-within "}" refl) (punct-within "}" refl) exact-next-field_definition)

pub begins-fields : BeginsWith (fields Current) (punct "{")
begins-fields = begins-between (punct "}")

pub ignores-fields : IgnoresPlaces (fields Current) (map (unplaced placeless_field))
ignores-fields = ignores-between (punct "{") (punct "}") (λ spelling. refl) (λ spelling. refl) (ignores-plus ignores-field_definition)
