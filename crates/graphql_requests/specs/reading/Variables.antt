-- Reading variable definitions from lists of tokens.
use Rattle.std.specs.Prelude.{ℕ, true, Option, List}
use Rattle.graphql_tokens.specs.declared.pos.Positioned.{Positioned}
use Rattle.graphql_syntax.specs.trees.Parts.{Directives}
use Rattle.graphql_trees.specs.trees.Request.{VariableDefinition}
use Rattle.graphql_grammar.specs.grammar.Values.{Value}
use Rattle.graphql_grammar.specs.reading.Arguments.{directives_at, maybe_default_at}
use Rattle.graphql_grammar.specs.reading.Types.{type_at}
use Rattle.graphql_reading.specs.grammar.Tests.{punct, any_name}
use Rattle.graphql_reading.specs.reading.Outcome.{Reader, one_at, then_at, mapped_at, choose_at, plus_at, between_at}
use Rattle.graphql_requests.specs.grammar.Variables.{variable_definition_of}

abbrev pub turned : {A B : Type 0} → A × B → B × A
turned x = (x.1, x.0)

-- the default first where `=` comes first, else the directives
abbrev pub default_and_directives_at : ℕ → Reader (Option Value × Directives)
default_and_directives_at values =
    choose_at (punct "=") (then_at (maybe_default_at values) (directives_at true values))
    (mapped_at turned (then_at (directives_at true values) (maybe_default_at values)))

abbrev pub variable_definition_at : ℕ → ℕ → Reader (Positioned VariableDefinition)
variable_definition_at values types =
    mapped_at variable_definition_of (then_at (one_at (punct "$")) (then_at (one_at any_name) (then_at (one_at (punct ":")) (then_at (type_at types) (default_and_directives_at values)))))

abbrev pub variable_definitions_at : ℕ → ℕ → Reader (List (Positioned VariableDefinition))
variable_definitions_at values types = between_at (punct "(") (plus_at (punct "$") (variable_definition_at values types)) (punct ")")
