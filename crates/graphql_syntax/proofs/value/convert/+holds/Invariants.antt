use Rattle.std.proofs.Common.{◌≡◌, drop}
use Rattle.graphql_syntax.specs.trees.ValueTree.{trees_have_variable, fields_have_variable}
use Rattle.graphql_syntax.specs.trees.ValueViews.{value_tree, trees_by, fields_by}
use Rattle.graphql_syntax.proofs.value.convert.+holds.Given as goal

abbrev pub invariant-fields_hold-loop-field : goal.invariant-fields_hold-loop-field
invariant-fields_hold-loop-field l =
    fields_have_variable (fields_by value_tree l.fields.items) ≡ fields_have_variable (fields_by value_tree (drop l.field-index l.field-items))

abbrev pub invariant-items_hold-loop-item : goal.invariant-items_hold-loop-item
invariant-items_hold-loop-item l =
    trees_have_variable (trees_by value_tree l.items.items) ≡ trees_have_variable (trees_by value_tree (drop l.item-index l.item-items))
