use Rattle.graphql_syntax.specs.trees.ValueViews.{const_tree, field_by}
use Rattle.graphql_syntax.proofs.TreeLists.{IsDecidedByItems, IsDecidedByFields}
use Rattle.graphql_syntax.proofs.value.equality.+same_const.Given as goal

abbrev pub invariant-same_const_fields-loop-i : goal.invariant-same_const_fields-loop-i
invariant-same_const_fields-loop-i l = IsDecidedByFields (field_by const_tree) l.xs.items l.ys.items l.i

abbrev pub invariant-same_const_items-loop-i : goal.invariant-same_const_items-loop-i
invariant-same_const_items-loop-i l = IsDecidedByItems const_tree l.xs.items l.ys.items l.i
