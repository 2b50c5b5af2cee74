-- Reading type references from lists of tokens.
use Rattle.std.specs.Prelude.{ℕ, zero, suc, Option}
use Rattle.graphql_tokens.specs.declared.pos.Positioned.{Positioned}
use Rattle.graphql_tokens.specs.tokens.Token.{Token}
use Rattle.graphql_syntax.specs.trees.TypeTree.{TypeTree}
use Rattle.graphql_reading.specs.grammar.Tests.{punct, any_name}
use Rattle.graphql_grammar.specs.grammar.Types.{named_of, list_type_of}
use Rattle.graphql_reading.specs.reading.Outcome.{Reader, one_at, then_at, mapped_at, choose_at, opt_at, deep_at}

abbrev pub mark_at : Reader (Option Token)
mark_at = opt_at (punct "!") (one_at (punct "!"))

abbrev pub named_type_at : Reader (Positioned TypeTree)
named_type_at = mapped_at named_of (then_at (one_at any_name) mark_at)

abbrev pub list_type_at : Reader (Positioned TypeTree) → Reader (Positioned TypeTree)
list_type_at item = mapped_at list_type_of (then_at (one_at (punct "[")) (then_at item (then_at (one_at (punct "]")) mark_at)))

unfoldable pub type_at : ℕ → Reader (Positioned TypeTree)
type_at zero ts = choose_at any_name named_type_at (deep_at (punct "[")) ts
type_at (suc b) ts = choose_at any_name named_type_at (list_type_at (type_at b)) ts
