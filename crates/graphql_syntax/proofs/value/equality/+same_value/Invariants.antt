use Rattle.graphql_syntax.specs.trees.ValueViews.{value_tree, field_by}
use Rattle.graphql_syntax.proofs.TreeLists.{IsDecidedByItems, IsDecidedByFields}
use Rattle.graphql_syntax.proofs.value.equality.+same_value.Given as goal

abbrev pub invariant-same_value_fields-loop-i : goal.invariant-same_value_fields-loop-i
invariant-same_value_fields-loop-i l = IsDecidedByFields (field_by value_tree) l.xs.items l.ys.items l.i

abbrev pub invariant-same_value_items-loop-i : goal.invariant-same_value_items-loop-i
invariant-same_value_items-loop-i l = IsDecidedByItems value_tree l.xs.items l.ys.items l.i
