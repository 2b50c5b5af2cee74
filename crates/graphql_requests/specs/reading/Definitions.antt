-- The definitions of the code, and how it reads operations.
use Rattle.std.specs.Prelude.{true, Option, Some, None, List}
use Rattle.graphql_tokens.specs.declared.pos.Positioned.{Positioned}
use Rattle.graphql_syntax.specs.declared.types.OperationType.{OperationType}
use Rattle.graphql_tokens.specs.tokens.Token.{Token}
use Rattle.graphql_syntax.specs.trees.Parts.{Name, Directives, placed}
use Rattle.graphql_trees.specs.trees.Request.{VariableDefinition}
use Rattle.graphql_trees.specs.trees.RequestViews.{operation_tree, fragment_tree}
use Rattle.graphql_requests.specs.declared.definitions.Definition as code
use Rattle.graphql_requests.specs.declared.definitions.Definition.TheVariants.{Operation, Fragment}
use Rattle.graphql_reading.specs.grammar.Relations.{given}
use Rattle.graphql_reading.specs.grammar.Limits.{Limits}
use Rattle.graphql_reading.specs.grammar.Places.{at}
use Rattle.graphql_requests.specs.grammar.Request.{Definition, operation, fragment}
use Rattle.graphql_requests.specs.grammar.Selections.{Set}
use Rattle.graphql_reading.specs.grammar.Tests.{punct, any_name}
use Rattle.graphql_grammar.specs.reading.Arguments.{directives_at}
use Rattle.graphql_requests.specs.reading.Variables.{variable_definitions_at}
use Rattle.graphql_reading.specs.reading.Outcome.{Reader, one_at, then_at, mapped_at, choose_at, none_at, opt_at}
use Rattle.graphql_grammar.specs.reading.Operations.{operation_type_at}
use Rattle.graphql_requests.specs.reading.Request.{own_set_at}

abbrev pub definition_tree : code.Definition → Definition
definition_tree (Operation name node) = operation name (placed operation_tree node)
definition_tree (Fragment name node) = fragment name (placed fragment_tree node)

-- ---- an operation that begins with its keyword

abbrev pub maybe_name_at : Reader (Option Name)
maybe_name_at = choose_at any_name (mapped_at (λ t. Some t.bare.spelling) (one_at any_name)) (none_at None)

abbrev pub given_variables_at : Limits → Reader (List (Positioned VariableDefinition))
given_variables_at limits = mapped_at given (opt_at (punct "(") (variable_definitions_at limits.values limits.types))

abbrev pub worded : (Token × OperationType) × (Option Name × (List (Positioned VariableDefinition) × (Directives × Set))) → Definition
worded x = operation x.1.0 (at x.0.0 (record {
  ty = x.0.1;
  variable_definitions = x.1.1.0;
  directives = x.1.1.1.0;
  selection_set = x.1.1.1.1;
}))

abbrev pub worded_at : Limits → Reader Definition
worded_at limits =
    mapped_at worded (then_at operation_type_at (then_at maybe_name_at (then_at (given_variables_at limits) (then_at (directives_at true limits.values) (own_set_at limits)))))
