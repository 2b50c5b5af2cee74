-- Reading operations, fragments and documents from lists of tokens.
use Rattle.std.specs.Prelude.{true, ◌||◌, List}
use Rattle.graphql_reading.specs.grammar.Limits.{Limits}
use Rattle.graphql_requests.specs.grammar.Request.{Definition, query_of, operation_of, fragment_of}
use Rattle.graphql_requests.specs.grammar.Selections.{Set, fragment_name}
use Rattle.graphql_reading.specs.grammar.Tests.{Test, punct, keyword, any_name}
use Rattle.graphql_grammar.specs.reading.Arguments.{directives_at}
use Rattle.graphql_grammar.specs.reading.Operations.{operation_type_at}
use Rattle.graphql_requests.specs.reading.Variables.{variable_definitions_at}
use Rattle.graphql_reading.specs.reading.Outcome.{Reader, one_at, then_at, mapped_at, choose_at, opt_at, plus_at}
use Rattle.graphql_requests.specs.reading.Selections.{type_condition_at, selection_set_at}

abbrev pub own_set_at : Limits → Reader Set
own_set_at limits = selection_set_at limits.values limits.selections

abbrev pub short_operation_at : Limits → Reader Definition
short_operation_at limits = mapped_at query_of (own_set_at limits)

abbrev pub full_operation_at : Limits → Reader Definition
full_operation_at limits =
    mapped_at operation_of (then_at operation_type_at (then_at (opt_at any_name (one_at any_name)) (then_at (opt_at (punct "(") (variable_definitions_at limits.values limits.types)) (then_at (directives_at true limits.values) (own_set_at limits)))))

abbrev pub fragment_at : Limits → Reader Definition
fragment_at limits =
    mapped_at fragment_of (then_at (one_at (keyword "fragment")) (then_at (one_at fragment_name) (then_at type_condition_at (then_at (directives_at true limits.values) (own_set_at limits)))))

-- what a definition begins with
abbrev pub definition_first : Test
definition_first t = punct "{" t || keyword "query" t || keyword "mutation" t || keyword "subscription" t || keyword "fragment" t

abbrev pub definition_at : Limits → Reader Definition
definition_at limits = choose_at (punct "{") (short_operation_at limits) (choose_at (keyword "fragment") (fragment_at limits) (full_operation_at limits))

abbrev pub definitions_at : Limits → Reader (List Definition)
definitions_at limits = plus_at definition_first (definition_at limits)
