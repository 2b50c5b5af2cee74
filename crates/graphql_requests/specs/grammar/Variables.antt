-- Variable definitions, and their places (GraphQL October 2021, section 2.10).
use Rattle.std.specs.Prelude.{ℕ, true, Option, Some, List}
use Rattle.graphql_tokens.specs.declared.pos.Positioned.{Positioned}
use Rattle.graphql_tokens.specs.tokens.Edition.{Edition}
use Rattle.graphql_tokens.specs.tokens.Token.{Token}
use Rattle.graphql_syntax.specs.trees.Parts.{Directives}
use Rattle.graphql_trees.specs.trees.Request.{VariableDefinition}
use Rattle.graphql_syntax.specs.trees.TypeTree.{TypeTree}
use Rattle.graphql_grammar.specs.grammar.Arguments.{a_directive, directives, a_default}
use Rattle.graphql_grammar.specs.grammar.Types.{type_reference}
use Rattle.graphql_grammar.specs.grammar.Values.{Value}
use Rattle.graphql_reading.specs.grammar.Places.{at, name_of}
use Rattle.graphql_reading.specs.grammar.Relations.{Rel, one, ◌⨾◌, ◌∪◌, mapped, plus, opt, between}
use Rattle.graphql_reading.specs.grammar.Tests.{punct, any_name}

abbrev pub default_after : Directives × Value → Option Value × Directives
default_after (directives, default) = (Some default, directives)

-- Default? Directives? | Directives Default
-- The specification has the first order alone; the second is the Rust crate's.
abbrev pub default_and_directives : Edition → ℕ → Rel (Option Value × Directives)
default_and_directives edition values =
    (opt (a_default edition values) ⨾ directives edition true values)
    ∪ mapped default_after (plus (a_directive edition true values) ⨾ a_default edition values)

abbrev pub variable_definition_of : Token × (Token × (Token × (Positioned TypeTree × (Option Value × Directives)))) → Positioned VariableDefinition
variable_definition_of (dollar, (name, (colon, (ty, (default, directives))))) =
    at dollar (record { name = name_of name; var_type = ty; directives = directives; default_value = default })

-- VariableDefinition : Variable ':' Type (DefaultValue? Directives? | Directives DefaultValue)
-- It stands at `$`, and its name at the name.
abbrev pub a_variable_definition : Edition → ℕ → ℕ → Rel (Positioned VariableDefinition)
a_variable_definition edition values types =
    mapped variable_definition_of (one (punct "$") ⨾ one any_name ⨾ one (punct ":") ⨾ type_reference types ⨾ default_and_directives edition values)

-- VariableDefinitions : '(' VariableDefinition+ ')'
abbrev pub variable_definitions : Edition → ℕ → ℕ → Rel (List (Positioned VariableDefinition))
variable_definitions edition values types = between (punct "(") (plus (a_variable_definition edition values types)) (punct ")")
