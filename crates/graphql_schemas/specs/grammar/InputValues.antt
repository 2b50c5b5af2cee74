-- What arguments and input objects are given: input values, and their places (GraphQL October 2021, sections 3.6.1 and
-- 3.10).
use Rattle.std.specs.Prelude.{false, Option}
use Rattle.graphql_tokens.specs.declared.pos.Positioned.{Positioned}
use Rattle.graphql_tokens.specs.tokens.Edition.{Edition}
use Rattle.graphql_tokens.specs.tokens.Token.{Token}
use Rattle.graphql_syntax.specs.trees.Parts.{Directives}
use Rattle.graphql_trees.specs.trees.Schema.{Description, InputValueDefinition, InputValues}
use Rattle.graphql_syntax.specs.trees.TypeTree.{TypeTree}
use Rattle.graphql_grammar.specs.grammar.Arguments.{directives, a_default}
use Rattle.graphql_grammar.specs.grammar.Types.{type_reference}
use Rattle.graphql_grammar.specs.grammar.Values.{Value}
use Rattle.graphql_reading.specs.grammar.Fronts.{Grammar}
use Rattle.graphql_reading.specs.grammar.Places.{name_of}
use Rattle.graphql_reading.specs.grammar.Relations.{one, ◌⨾◌, mapped, plus, opt, between}
use Rattle.graphql_reading.specs.grammar.Tests.{punct, any_name}
use Rattle.graphql_schemas.specs.grammar.Descriptions.{a_description, described}

abbrev pub input_value_of : Description × (Token × (Token × (Positioned TypeTree × (Option Value × Directives)))) → Positioned InputValueDefinition
input_value_of (description, (name, (colon, (ty, (default, directives))))) = described description name (record {
  description = description;
  name = name_of name;
  ty = ty;
  default_value = default;
  directives = directives;
})

-- InputValueDefinition : Description? Name ':' Type DefaultValue? Directives[Const]?
abbrev pub an_input_value : Edition → Grammar (Positioned InputValueDefinition)
an_input_value edition limits =
    mapped input_value_of (opt (a_description edition) ⨾ one any_name ⨾ one (punct ":") ⨾ type_reference limits.types ⨾ opt (a_default edition limits.values) ⨾ directives edition false limits.values)

-- ArgumentsDefinition : '(' InputValueDefinition+ ')'
abbrev pub arguments_definition : Edition → Grammar InputValues
arguments_definition edition limits = between (punct "(") (plus (an_input_value edition limits)) (punct ")")

-- InputFieldsDefinition : '{' InputValueDefinition+ '}'
abbrev pub input_fields : Edition → Grammar InputValues
input_fields edition limits = between (punct "{") (plus (an_input_value edition limits)) (punct "}")
