-- The selection set of a selection.
-- Source: GraphQL October 2021, sections 2.5 (Fields) and 2.8 (Fragments). That a field always has a set, which is empty where
-- none is written, is this project's choice.
use Rattle.std.specs.Prelude.{Option, Some, None}
use Rattle.graphql_tokens.specs.declared.pos.Positioned.{Positioned}
use Rattle.graphql_trees.specs.declared.executable.Selection.{Selection, out-Selection}
use Rattle.graphql_trees.specs.declared.executable.Selection.TheOpen.{Selection-F}
use Rattle.graphql_trees.specs.declared.executable.SelectionSet.{SelectionSet}
use Rattle.graphql_trees.specs.declared.executable.Field.{Field, out-Field}
use Rattle.graphql_trees.specs.declared.executable.InlineFragment.{InlineFragment, out-InlineFragment}

-- of one level of a selection; a spread has none
abbrev pub set_in : Selection-F Selection Field InlineFragment SelectionSet → Option (Positioned SelectionSet)
set_in (Selection-F.Field f) = Some (out-Field f.node).selection_set
set_in (Selection-F.FragmentSpread s) = None
set_in (Selection-F.InlineFragment i) = Some (out-InlineFragment i.node).selection_set

abbrev pub set_of : Selection → Option (Positioned SelectionSet)
set_of s = set_in (out-Selection s)
