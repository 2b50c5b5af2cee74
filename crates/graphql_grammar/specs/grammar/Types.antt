-- Type references, and their places (GraphQL October 2021, section 2.11).
use Rattle.std.specs.Prelude.{ℕ, zero, suc, Bool, true, false, Option, Some, None}
use Rattle.graphql_tokens.specs.declared.pos.Positioned.{Positioned}
use Rattle.graphql_tokens.specs.tokens.Token.{Token}
use Rattle.graphql_syntax.specs.trees.TypeTree.{TypeTree, named, list}
use Rattle.graphql_reading.specs.grammar.Tests.{punct, any_name}
use Rattle.graphql_reading.specs.grammar.Relations.{Rel, one, ◌⨾◌, ◌∪◌, mapped, opt}
use Rattle.graphql_reading.specs.grammar.Places.{at}

-- a type may be null where no `!` follows
abbrev pub nullable : Option Token → Bool
nullable None = true
nullable (Some mark) = false

-- Name '!'?
abbrev pub named_of : Token × Option Token → Positioned TypeTree
named_of (name, mark) = at name (named name.bare.spelling (nullable mark))

abbrev pub a_named_type : Rel (Positioned TypeTree)
a_named_type = mapped named_of (one any_name ⨾ opt (one (punct "!")))

-- '[' Type ']' '!'?
abbrev pub list_type_of : Token × (Positioned TypeTree × (Token × Option Token)) → Positioned TypeTree
list_type_of (opening, (item, (closing, mark))) = at opening (list item.node (nullable mark))

abbrev pub a_list_type : Rel (Positioned TypeTree) → Rel (Positioned TypeTree)
a_list_type item = mapped list_type_of (one (punct "[") ⨾ item ⨾ one (punct "]") ⨾ opt (one (punct "!")))

-- Type : Name '!'? | '[' Type ']' '!'?
-- A type whose lists nest at most so deep. It stands at its first token.
abbrev pub type_reference : ℕ → Rel (Positioned TypeTree)
type_reference zero = a_named_type
type_reference (suc b) = a_named_type ∪ a_list_type (type_reference b)
