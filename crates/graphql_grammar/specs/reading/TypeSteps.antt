-- Reading a type reference as a loop does: what opens lists, a name, and what closes them.
use Rattle.std.specs.Prelude.{ℕ, zero, suc, Bool, not}
use Rattle.graphql_tokens.specs.declared.pos.Positioned.{Positioned}
use Rattle.graphql_tokens.specs.tokens.Token.{Token}
use Rattle.graphql_syntax.specs.trees.TypeTree.{TypeTree, named, list}
use Rattle.graphql_reading.specs.grammar.Places.{at}
use Rattle.graphql_reading.specs.grammar.Tests.{punct, any_name}
use Rattle.graphql_reading.specs.reading.Outcome.{Reader, Read, ◌>>=◌, one_at, peek_at, take_at, then_at, mapped_at, choose_at, none_at, deep_at}

-- how many lists are open, where so many are and so many more may be
unfoldable pub opens_at : ℕ → ℕ → Reader ℕ
opens_at opened zero ts = choose_at (punct "[") (deep_at (punct "[")) (none_at opened) ts
opens_at opened (suc more) ts = choose_at (punct "[") (mapped_at (λ x. x.1) (then_at (one_at (punct "[")) (opens_at (suc opened) more))) (none_at opened) ts

-- whether the type may be null: no `!` follows
abbrev pub nullable_at : Reader Bool
nullable_at = mapped_at not (take_at (punct "!"))

abbrev pub named_tree : Token × Bool → TypeTree
named_tree x = named x.0.bare.spelling x.1

abbrev pub named_at : Reader TypeTree
named_at = mapped_at named_tree (then_at (one_at any_name) nullable_at)

-- the end of a list of this type
abbrev pub close_at : TypeTree → Reader TypeTree
close_at item = mapped_at (λ x. list item x.1) (then_at (one_at (punct "]")) nullable_at)

-- the ends of so many lists, the inmost of this type
unfoldable pub closes_at : ℕ → TypeTree → Reader TypeTree
closes_at zero item ts = Read item ts
closes_at (suc opened) item ts = close_at item ts >>= closes_at opened

abbrev pub steps_at : ℕ → Reader (Positioned TypeTree)
steps_at limit ts =
    peek_at ts >>= λ first _. opens_at 0 limit ts >>= λ opened inside. named_at inside >>= λ item after. closes_at opened item after >>= λ whole rest. Read (at first whole) rest
