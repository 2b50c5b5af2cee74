-- What is lent of a selection: the directives of its own case.
-- Source: this project's choice.
use Rattle.std.specs.Prelude.{Vec}
use Rattle.std.specs.Borrow.{Lends, MutBor, Fml}
use Rattle.std.specs.declared.alloc.Global.{Global}
use denote.RattleType.{RattleType}
use Rattle.std.specs.contracts.alloc.Global as global
use Rattle.std.specs.contracts.vec.Vec as vec
use Rattle.std.specs.contracts.impls.GlobalAllocator.TheImpl.{ghosts}
use Rattle.graphql_tokens.specs.contracts.pos.Positioned as positioned
use Rattle.graphql_syntax.specs.contracts.types.Directive as directive
use Rattle.graphql_trees.specs.contracts.executable.Selection.{the_row}
use Rattle.graphql_tokens.specs.declared.pos.Positioned.{Positioned}
use Rattle.graphql_syntax.specs.declared.types.Directive.{Directive}
use Rattle.graphql_trees.specs.declared.executable.Selection.{Selection, out-Selection}
use Rattle.graphql_trees.specs.declared.executable.Selection.TheOpen.{Selection-F}
use Rattle.graphql_trees.specs.declared.executable.Selection.TheViews.{roll-Selection, roll-Field, roll-InlineFragment}
use Rattle.graphql_trees.specs.declared.executable.SelectionSet.{SelectionSet}
use Rattle.graphql_trees.specs.declared.executable.Field.{Field, out-Field}
use Rattle.graphql_trees.specs.declared.executable.InlineFragment.{InlineFragment, out-InlineFragment}

abbrev pub directives_row : RattleType
directives_row = vec.the_row (positioned.the_row directive.the_row) global.the_row ghosts

abbrev pub Directives : Type 0
Directives = Vec (Positioned Directive) Global

-- the directives of one level of a selection
abbrev pub directives_in : Selection-F Selection Field InlineFragment SelectionSet → Directives
directives_in (Selection-F.Field f) = (out-Field f.node).directives
directives_in (Selection-F.FragmentSpread s) = s.node.directives
directives_in (Selection-F.InlineFragment i) = (out-InlineFragment i.node).directives

abbrev pub directives_of : Selection → Directives
directives_of s = directives_in (out-Selection s)

-- one level of a selection, with other directives
abbrev pub with_directives_in : Selection-F Selection Field InlineFragment SelectionSet → Directives → Selection-F Selection Field InlineFragment SelectionSet
with_directives_in (Selection-F.Field f) ds = Selection-F.Field (record f { node = roll-Field (record (out-Field f.node) { directives = ds }) })
with_directives_in (Selection-F.FragmentSpread s) ds = Selection-F.FragmentSpread (record s { node = record (s.node) { directives = ds } })
with_directives_in (Selection-F.InlineFragment i) ds = Selection-F.InlineFragment (record i { node = roll-InlineFragment (record (out-InlineFragment i.node) { directives = ds }) })

-- the selection with other directives
abbrev pub with_directives : Selection → Directives → Selection
with_directives s ds = roll-Selection (with_directives_in (out-Selection s) ds)

-- r is lent of the selection s: in the end s is what it was, with the directives that r then refers to
abbrev pub LendsDirectives : MutBor Selection → MutBor Directives → Fml
LendsDirectives s r = Lends the_row directives_row s r (with_directives s.now)
