use Rattle.std.proofs.Common.{◌≡◌, take, map}
use Rattle.graphql_syntax.specs.trees.ValueViews.{value_tree, field_by}
use Rattle.graphql_syntax.proofs.value.clones.+clone_value.Given as goal

abbrev pub invariant-clone_value_fields-loop-field : goal.invariant-clone_value_fields-loop-field
invariant-clone_value_fields-loop-field l = map (field_by value_tree) l.clones.items ≡ map (field_by value_tree) (take l.field-index l.field-items)

abbrev pub invariant-clone_value_items-loop-item : goal.invariant-clone_value_items-loop-item
invariant-clone_value_items-loop-item l = map value_tree l.clones.items ≡ map value_tree (take l.item-index l.item-items)
