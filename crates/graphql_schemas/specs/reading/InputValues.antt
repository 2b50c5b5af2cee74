-- Reading input values from lists of tokens.
use Rattle.std.specs.Prelude.{false, ◌||◌}
use Rattle.graphql_tokens.specs.declared.pos.Positioned.{Positioned}
use Rattle.graphql_trees.specs.trees.Schema.{InputValueDefinition, InputValues}
use Rattle.graphql_grammar.specs.reading.Arguments.{directives_at, maybe_default_at}
use Rattle.graphql_grammar.specs.reading.Types.{type_at}
use Rattle.graphql_reading.specs.grammar.Limits.{Limits}
use Rattle.graphql_reading.specs.grammar.Relations.{given}
use Rattle.graphql_reading.specs.grammar.Tests.{Test, punct, any_name}
use Rattle.graphql_reading.specs.reading.Outcome.{Reader, one_at, then_at, mapped_at, opt_at, plus_at, between_at}
use Rattle.graphql_schemas.specs.grammar.InputValues.{input_value_of}
use Rattle.graphql_schemas.specs.reading.Descriptions.{is_text, maybe_description_at}

-- what a member with a name begins with: a description, or the name
abbrev pub member_first : Test
member_first t = is_text t || any_name t

abbrev pub input_value_at : Limits → Reader (Positioned InputValueDefinition)
input_value_at limits =
    mapped_at input_value_of (then_at maybe_description_at (then_at (one_at any_name) (then_at (one_at (punct ":")) (then_at (type_at limits.types) (then_at (maybe_default_at limits.values) (directives_at false limits.values))))))

abbrev pub arguments_definition_at : Limits → Reader InputValues
arguments_definition_at limits = between_at (punct "(") (plus_at member_first (input_value_at limits)) (punct ")")

-- where there are any
abbrev pub given_arguments_at : Limits → Reader InputValues
given_arguments_at limits = mapped_at given (opt_at (punct "(") (arguments_definition_at limits))

abbrev pub input_fields_at : Limits → Reader InputValues
input_fields_at limits = between_at (punct "{") (plus_at member_first (input_value_at limits)) (punct "}")
