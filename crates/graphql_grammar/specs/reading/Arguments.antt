-- Reading arguments, directives and default values from lists of tokens.
use Rattle.std.specs.Prelude.{ℕ, Bool, false, Option}
use Rattle.graphql_tokens.specs.declared.pos.Positioned.{Positioned}
use Rattle.graphql_syntax.specs.trees.Parts.{Argument, Directive, Directives}
use Rattle.graphql_syntax.specs.trees.Parts as trees
use Rattle.graphql_grammar.specs.grammar.Arguments.{argument_of, directive_of}
use Rattle.graphql_reading.specs.grammar.Tests.{punct, any_name}
use Rattle.graphql_grammar.specs.grammar.Values.{Value}
use Rattle.graphql_reading.specs.reading.Outcome.{Reader, one_at, then_at, mapped_at, opt_at, many_at, plus_at, between_at, after_at}
use Rattle.graphql_grammar.specs.reading.Values.{value_at}

abbrev pub argument_at : Bool → ℕ → Reader Argument
argument_at vars values = mapped_at argument_of (then_at (one_at any_name) (then_at (one_at (punct ":")) (value_at vars values)))

abbrev pub arguments_at : Bool → ℕ → Reader trees.Arguments
arguments_at vars values = between_at (punct "(") (plus_at any_name (argument_at vars values)) (punct ")")

-- where there are any
abbrev pub maybe_arguments_at : Bool → ℕ → Reader (Option trees.Arguments)
maybe_arguments_at vars values = opt_at (punct "(") (arguments_at vars values)

abbrev pub directive_at : Bool → ℕ → Reader (Positioned Directive)
directive_at vars values = mapped_at directive_of (then_at (one_at (punct "@")) (then_at (one_at any_name) (maybe_arguments_at vars values)))

abbrev pub directives_at : Bool → ℕ → Reader Directives
directives_at vars values = many_at (punct "@") (directive_at vars values)

-- ---- default values

abbrev pub default_at : ℕ → Reader Value
default_at values = after_at (punct "=") (value_at false values)

abbrev pub maybe_default_at : ℕ → Reader (Option Value)
maybe_default_at values = opt_at (punct "=") (default_at values)
