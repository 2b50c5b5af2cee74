-- Reading fields from lists of tokens.
use Rattle.std.specs.Prelude.{false, List}
use Rattle.graphql_tokens.specs.declared.pos.Positioned.{Positioned}
use Rattle.graphql_trees.specs.trees.Schema.{FieldDefinition}
use Rattle.graphql_grammar.specs.reading.Arguments.{directives_at}
use Rattle.graphql_grammar.specs.reading.Types.{type_at}
use Rattle.graphql_reading.specs.grammar.Limits.{Limits}
use Rattle.graphql_reading.specs.grammar.Relations.{given}
use Rattle.graphql_reading.specs.grammar.Tests.{punct, any_name}
use Rattle.graphql_reading.specs.reading.Outcome.{Reader, one_at, then_at, mapped_at, opt_at, plus_at, between_at}
use Rattle.graphql_schemas.specs.grammar.Fields.{field_definition_of}
use Rattle.graphql_schemas.specs.reading.Descriptions.{maybe_description_at}
use Rattle.graphql_schemas.specs.reading.InputValues.{member_first, arguments_definition_at}

abbrev pub field_definition_at : Limits → Reader (Positioned FieldDefinition)
field_definition_at limits =
    mapped_at field_definition_of (then_at maybe_description_at (then_at (one_at any_name) (then_at (opt_at (punct "(") (arguments_definition_at limits)) (then_at (one_at (punct ":")) (then_at (type_at limits.types) (directives_at false limits.values))))))

abbrev pub fields_at : Limits → Reader (List (Positioned FieldDefinition))
fields_at limits = between_at (punct "{") (plus_at member_first (field_definition_at limits)) (punct "}")

-- where there are any
abbrev pub given_fields_at : Limits → Reader (List (Positioned FieldDefinition))
given_fields_at limits = mapped_at given (opt_at (punct "{") (fields_at limits))
