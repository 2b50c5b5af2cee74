-- Reading definitions and schema files from lists of tokens.
use Rattle.std.specs.Prelude.{true, false, ◌||◌, Option, List}
use Rattle.graphql_tokens.specs.declared.pos.Positioned.{Positioned}
use Rattle.graphql_tokens.specs.tokens.Token.{Token}
use Rattle.graphql_trees.specs.declared.service.DirectiveLocation.{DirectiveLocation}
use Rattle.graphql_syntax.specs.trees.Parts.{Directives}
use Rattle.graphql_trees.specs.trees.Schema.{Description, InputValues}
use Rattle.graphql_reading.specs.grammar.Limits.{Limits}
use Rattle.graphql_reading.specs.grammar.Tests.{Test, keyword}
use Rattle.graphql_reading.specs.reading.Outcome.{Reader, one_at, then_at, mapped_at, choose_at, plus_at}
use Rattle.graphql_schemas.specs.grammar.Directives.{directive_definition_of}
use Rattle.graphql_schemas.specs.grammar.Schema.{Root, schema_of, schema_extension_of}
use Rattle.graphql_schemas.specs.grammar.SchemaFile.{Definition, schema, type_def, directive}
use Rattle.graphql_schemas.specs.grammar.Types.{Body, type_definition_of, type_extension_of}
use Rattle.graphql_schemas.specs.reading.Descriptions.{is_text, maybe_description_at}
use Rattle.graphql_schemas.specs.reading.Directives.{directive_rest_at}
use Rattle.graphql_schemas.specs.reading.Schema.{schema_rest_at, extended_schema_at}
use Rattle.graphql_schemas.specs.reading.Types.{body_at, body_first}

-- a definition without its description
pub data Undescribed : Type 0 where
  of_schema : Token × (Directives × List Root) → Undescribed
  of_type : Body → Undescribed
  of_directive : Token × (Token × (Token × (Option InputValues × (Option Token × List (Positioned DirectiveLocation))))) → Undescribed

-- with its description
abbrev pub with_description : Description × Undescribed → Definition
with_description (description, of_schema rest) = schema (schema_of (description, rest))
with_description (description, of_type body) = type_def (type_definition_of (description, body))
with_description (description, of_directive rest) = directive (directive_definition_of (description, rest))

abbrev pub undescribed_at : Limits → Reader Undescribed
undescribed_at limits =
    choose_at (keyword "schema") (mapped_at of_schema (schema_rest_at limits))
    (choose_at (keyword "directive") (mapped_at of_directive (directive_rest_at limits))
    (mapped_at of_type (body_at false limits)))

abbrev pub described_at : Limits → Reader Definition
described_at limits = mapped_at with_description (then_at maybe_description_at (undescribed_at limits))

-- what is extended, after 'extend'
pub data Extended : Type 0 where
  a_schema : Token × (Directives × List Root) → Extended
  a_type : Body → Extended

abbrev pub extension_of : Token × Extended → Definition
extension_of (extend, a_schema rest) = schema (schema_extension_of (extend, rest))
extension_of (extend, a_type body) = type_def (type_extension_of (extend, body))

abbrev pub extension_at : Limits → Reader Definition
extension_at limits =
    mapped_at extension_of (then_at (one_at (keyword "extend")) (choose_at (keyword "schema") (mapped_at a_schema (extended_schema_at limits)) (mapped_at a_type (body_at true limits))))

-- what a definition or an extension begins with
abbrev pub definition_first : Test
definition_first t = is_text t || keyword "extend" t || keyword "schema" t || keyword "directive" t || body_first t

abbrev pub definition_at : Limits → Reader Definition
definition_at limits = choose_at (keyword "extend") (extension_at limits) (described_at limits)

abbrev pub definitions_at : Limits → Reader (List Definition)
definitions_at limits = plus_at definition_first (definition_at limits)
