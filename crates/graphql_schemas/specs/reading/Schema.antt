-- Reading definitions and extensions of schemas from lists of tokens.
use Rattle.std.specs.Prelude.{true, false, ◌||◌, List}
use Rattle.graphql_tokens.specs.tokens.Token.{Token}
use Rattle.graphql_syntax.specs.trees.Parts.{Directives}
use Rattle.graphql_grammar.specs.reading.Arguments.{directives_at}
use Rattle.graphql_grammar.specs.reading.Operations.{operation_type_at}
use Rattle.graphql_reading.specs.grammar.Limits.{Limits}
use Rattle.graphql_reading.specs.grammar.Tests.{Test, punct, keyword, any_name}
use Rattle.graphql_reading.specs.reading.Outcome.{Reader, one_at, then_at, mapped_at, plus_at, between_at}
use Rattle.graphql_schemas.specs.grammar.Schema.{Root, root_of}
use Rattle.graphql_schemas.specs.reading.Types.{some_parts_at}

-- what a root begins with
abbrev pub root_first : Test
root_first t = keyword "query" t || keyword "mutation" t || keyword "subscription" t

abbrev pub root_at : Reader Root
root_at = mapped_at root_of (then_at operation_type_at (then_at (one_at (punct ":")) (one_at any_name)))

abbrev pub roots_at : Reader (List Root)
roots_at = between_at (punct "{") (plus_at root_first root_at) (punct "}")

-- after the description of a definition
abbrev pub schema_rest_at : Limits → Reader (Token × (Directives × List Root))
schema_rest_at limits = then_at (one_at (keyword "schema")) (then_at (directives_at false limits.values) roots_at)

-- after the 'extend' of an extension
abbrev pub extended_schema_at : Limits → Reader (Token × (Directives × List Root))
extended_schema_at limits = then_at (one_at (keyword "schema")) (some_parts_at true limits (punct "{") roots_at)
