use Rattle.std.proofs.Common.{◌≡◌, take, map}
use Rattle.graphql_syntax.specs.trees.ValueViews.{const_tree, field_by}
use Rattle.graphql_syntax.proofs.value.clones.+clone_const.Given as goal

abbrev pub invariant-clone_const_fields-loop-field : goal.invariant-clone_const_fields-loop-field
invariant-clone_const_fields-loop-field l = map (field_by const_tree) l.clones.items ≡ map (field_by const_tree) (take l.field-index l.field-items)

abbrev pub invariant-clone_const_items-loop-item : goal.invariant-clone_const_items-loop-item
invariant-clone_const_items-loop-item l = map const_tree l.clones.items ≡ map const_tree (take l.item-index l.item-items)
