-- What is lent of the node in a selection, on the way to what is lent of the selection.
use Rattle.std.specs.Borrow.{Lends, MutBor, Fml}
use Rattle.graphql_tokens.specs.contracts.pos.Positioned as positioned
use Rattle.graphql_trees.specs.contracts.executable.FragmentSpread as spread_row
use Rattle.graphql_trees.specs.contracts.executable.Field as field_row
use Rattle.graphql_trees.specs.contracts.executable.InlineFragment as fragment_row
use Rattle.graphql_tokens.specs.declared.pos.Positioned.{Positioned}
use Rattle.graphql_trees.specs.declared.executable.Selection.TheViews.{roll-Field, roll-InlineFragment}
use Rattle.graphql_trees.specs.declared.executable.Field.{Field, out-Field}
use Rattle.graphql_trees.specs.declared.executable.InlineFragment.{InlineFragment, out-InlineFragment}
use Rattle.graphql_trees.specs.declared.executable.FragmentSpread.{FragmentSpread}
use Rattle.graphql_trees.specs.calls.Lending.{Directives, directives_row}

abbrev pub with_field_directives : Positioned Field → Directives → Positioned Field
with_field_directives f ds = record f { node = roll-Field (record (out-Field f.node) { directives = ds }) }

abbrev pub LendsOfField : MutBor (Positioned Field) → MutBor Directives → Fml
LendsOfField s r = Lends (positioned.the_row field_row.the_row) directives_row s r (with_field_directives s.now)

abbrev pub with_spread_directives : Positioned FragmentSpread → Directives → Positioned FragmentSpread
with_spread_directives f ds = record f { node = record (f.node) { directives = ds } }

abbrev pub LendsOfSpread : MutBor (Positioned FragmentSpread) → MutBor Directives → Fml
LendsOfSpread s r = Lends (positioned.the_row spread_row.the_row) directives_row s r (with_spread_directives s.now)

abbrev pub with_fragment_directives : Positioned InlineFragment → Directives → Positioned InlineFragment
with_fragment_directives f ds = record f { node = roll-InlineFragment (record (out-InlineFragment f.node) { directives = ds }) }

abbrev pub LendsOfFragment : MutBor (Positioned InlineFragment) → MutBor Directives → Fml
LendsOfFragment s r = Lends (positioned.the_row fragment_row.the_row) directives_row s r (with_fragment_directives s.now)
