-- Arguments, directives and default values, and their places (GraphQL October 2021, sections 2.6, 2.10 and 2.12).
use Rattle.std.specs.Prelude.{ℕ, Bool, false, Option}
use Rattle.graphql_tokens.specs.declared.pos.Positioned.{Positioned}
use Rattle.graphql_tokens.specs.tokens.Edition.{Edition}
use Rattle.graphql_tokens.specs.tokens.Token.{Token}
use Rattle.graphql_syntax.specs.trees.Parts.{Name, Argument, Directive, Directives}
use Rattle.graphql_syntax.specs.trees.Parts as trees
use Rattle.graphql_grammar.specs.grammar.Values.{Value, value}
use Rattle.graphql_reading.specs.grammar.Places.{at, name_of}
use Rattle.graphql_reading.specs.grammar.Relations.{Rel, one, ◌⨾◌, mapped, star, plus, opt, given, between, after}
use Rattle.graphql_reading.specs.grammar.Tests.{punct, any_name}

-- ---- arguments: each value has the whole budget

abbrev pub argument_of : Token × (Token × Value) → Argument
argument_of (name, (colon, value)) = (name_of name, value)

-- Argument : Name ':' Value
abbrev pub an_argument : Edition → Bool → ℕ → Rel Argument
an_argument edition vars values = mapped argument_of (one any_name ⨾ one (punct ":") ⨾ value edition vars values)

-- Arguments : '(' Argument+ ')'
abbrev pub arguments : Edition → Bool → ℕ → Rel trees.Arguments
arguments edition vars values = between (punct "(") (plus (an_argument edition vars values)) (punct ")")

-- ---- directives

abbrev pub directive_of : Token × (Token × Option trees.Arguments) → Positioned Directive
directive_of (sign, (name, arguments)) = at sign (record { name = name_of name; arguments = given arguments })

-- Directive : '@' Name Arguments?
abbrev pub a_directive : Edition → Bool → ℕ → Rel (Positioned Directive)
a_directive edition vars values = mapped directive_of (one (punct "@") ⨾ one any_name ⨾ opt (arguments edition vars values))

-- Directives? : Directive*
abbrev pub directives : Edition → Bool → ℕ → Rel Directives
directives edition vars values = star (a_directive edition vars values)

-- ---- default values

-- DefaultValue : '=' Value[Const]
-- It stands at the value.
abbrev pub a_default : Edition → ℕ → Rel Value
a_default edition values = after (punct "=") (value edition false values)
