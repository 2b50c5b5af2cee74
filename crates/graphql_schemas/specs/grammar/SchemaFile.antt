-- The grammar of schema files: definitions and extensions of schemas, types and directives (GraphQL October 2021,
-- section 3.1).
use Rattle.std.specs.Prelude.{◌≡◌, None, List}
use Rattle.graphql_tokens.specs.declared.pos.Positioned.{Positioned}
use Rattle.graphql_tokens.specs.tokens.Edition.{Edition}
use Rattle.graphql_trees.specs.trees.Schema.{TypeDefinition, DirectiveDefinition}
use Rattle.graphql_reading.specs.grammar.Fronts.{Grammar}
use Rattle.graphql_reading.specs.grammar.Relations.{◌∪◌, mapped, plus}
use Rattle.graphql_schemas.specs.grammar.Directives.{a_directive_definition}
use Rattle.graphql_schemas.specs.grammar.Schema.{Schema, a_schema, a_schema_extension}
use Rattle.graphql_schemas.specs.grammar.Types.{a_type_definition, a_type_extension}

-- a definition or an extension; that of a schema has its roots as they are written
pub data Definition : Type 0 where
  schema : Positioned Schema → Definition
  type_def : Positioned TypeDefinition → Definition
  directive : Positioned DirectiveDefinition → Definition

-- TypeSystemDefinitionOrExtension :
--   SchemaDefinition | SchemaExtension | TypeDefinition | TypeExtension | DirectiveDefinition
abbrev pub a_definition : Edition → Grammar Definition
a_definition edition limits =
    mapped schema (a_schema edition limits)
    ∪ mapped schema (a_schema_extension edition limits)
    ∪ mapped type_def (a_type_definition edition limits)
    ∪ mapped type_def (a_type_extension edition limits)
    ∪ mapped directive (a_directive_definition edition limits)

-- TypeSystemExtensionDocument : TypeSystemDefinitionOrExtension+ End
-- The end of the text is put to the definitions where answers are defined.
abbrev pub definitions : Edition → Grammar (List Definition)
definitions edition limits = plus (a_definition edition limits)

-- ---- what the former edition leaves out

-- no schema in it has a description
abbrev pub HasNoDescribedSchema : Definition → Type 0
HasNoDescribedSchema (schema s) = s.node.description ≡ None
HasNoDescribedSchema (type_def t) = Unit {0}
HasNoDescribedSchema (directive d) = Unit {0}
