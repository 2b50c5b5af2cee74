-- Fields of object types and interfaces, and their places (GraphQL October 2021, section 3.6).
use Rattle.std.specs.Prelude.{false, Option, List}
use Rattle.graphql_tokens.specs.declared.pos.Positioned.{Positioned}
use Rattle.graphql_tokens.specs.tokens.Edition.{Edition}
use Rattle.graphql_tokens.specs.tokens.Token.{Token}
use Rattle.graphql_syntax.specs.trees.Parts.{Directives}
use Rattle.graphql_trees.specs.trees.Schema.{Description, InputValues, FieldDefinition}
use Rattle.graphql_syntax.specs.trees.TypeTree.{TypeTree}
use Rattle.graphql_grammar.specs.grammar.Arguments.{directives}
use Rattle.graphql_grammar.specs.grammar.Types.{type_reference}
use Rattle.graphql_reading.specs.grammar.Fronts.{Grammar}
use Rattle.graphql_reading.specs.grammar.Places.{name_of}
use Rattle.graphql_reading.specs.grammar.Relations.{one, ◌⨾◌, mapped, plus, opt, given, between}
use Rattle.graphql_reading.specs.grammar.Tests.{punct, any_name}
use Rattle.graphql_schemas.specs.grammar.Descriptions.{a_description, described}
use Rattle.graphql_schemas.specs.grammar.InputValues.{arguments_definition}

abbrev pub field_definition_of : Description × (Token × (Option InputValues × (Token × (Positioned TypeTree × Directives)))) → Positioned FieldDefinition
field_definition_of (description, (name, (arguments, (colon, (ty, directives))))) = described description name (record {
  description = description;
  name = name_of name;
  arguments = given arguments;
  ty = ty;
  directives = directives;
})

-- FieldDefinition : Description? Name ArgumentsDefinition? ':' Type Directives[Const]?
abbrev pub a_field_definition : Edition → Grammar (Positioned FieldDefinition)
a_field_definition edition limits =
    mapped field_definition_of (opt (a_description edition) ⨾ one any_name ⨾ opt (arguments_definition edition limits) ⨾ one (punct ":") ⨾ type_reference limits.types ⨾ directives edition false limits.values)

-- FieldsDefinition : '{' FieldDefinition+ '}'
abbrev pub fields : Edition → Grammar (List (Positioned FieldDefinition))
fields edition limits = between (punct "{") (plus (a_field_definition edition limits)) (punct "}")
