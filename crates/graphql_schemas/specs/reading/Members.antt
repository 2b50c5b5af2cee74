-- Reading interfaces, members of unions and values of enums from lists of tokens.
use Rattle.std.specs.Prelude.{◌||◌, false, List}
use Rattle.graphql_tokens.specs.declared.pos.Positioned.{Positioned}
use Rattle.graphql_syntax.specs.trees.Parts.{Name}
use Rattle.graphql_trees.specs.trees.Schema.{Names, EnumValueDefinition}
use Rattle.graphql_grammar.specs.reading.Arguments.{directives_at}
use Rattle.graphql_reading.specs.grammar.Limits.{Limits}
use Rattle.graphql_reading.specs.grammar.Places.{name_of}
use Rattle.graphql_reading.specs.grammar.Relations.{given}
use Rattle.graphql_reading.specs.grammar.Tests.{Test, punct, keyword, any_name}
use Rattle.graphql_reading.specs.reading.Outcome.{Reader, one_at, then_at, mapped_at, opt_at, plus_at, between_at, after_at, separated_at}
use Rattle.graphql_schemas.specs.grammar.Members.{enum_name, enum_value_of}
use Rattle.graphql_schemas.specs.reading.Descriptions.{is_text, maybe_description_at}

abbrev pub name_at : Reader (Positioned Name)
name_at = mapped_at name_of (one_at any_name)

abbrev pub implements_at : Reader Names
implements_at = after_at (keyword "implements") (separated_at (punct "&") name_at)

-- where there are any
abbrev pub given_implements_at : Reader Names
given_implements_at = mapped_at given (opt_at (keyword "implements") implements_at)

abbrev pub members_at : Reader Names
members_at = after_at (punct "=") (separated_at (punct "|") name_at)

abbrev pub given_members_at : Reader Names
given_members_at = mapped_at given (opt_at (punct "=") members_at)

-- what a value of an enum begins with
abbrev pub enum_value_first : Test
enum_value_first t = is_text t || enum_name t

abbrev pub enum_value_at : Limits → Reader (Positioned EnumValueDefinition)
enum_value_at limits = mapped_at enum_value_of (then_at maybe_description_at (then_at (one_at enum_name) (directives_at false limits.values)))

abbrev pub enum_values_at : Limits → Reader (List (Positioned EnumValueDefinition))
enum_values_at limits = between_at (punct "{") (plus_at enum_value_first (enum_value_at limits)) (punct "}")
