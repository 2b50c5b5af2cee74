use Rattle.std.proofs.Common.{◌≡◌, ◌++◌, map, false}
use Rattle.std.specs.Vec.Iter.{into_iter_items}
use Rattle.graphql_syntax.specs.trees.ValueTree.{trees_have_variable, fields_have_variable}
use Rattle.graphql_syntax.specs.trees.ValueViews.{const_tree, value_tree, trees_by, field_by, fields_by}
use Rattle.graphql_syntax.proofs.value.convert.+const_of.Given as goal

abbrev pub invariant-const_fields_of-loop-name : goal.invariant-const_fields_of-loop-name
invariant-const_fields_of-loop-name l =
    (l.fn.fields.items ≡ l.yielded ++ into_iter_items l.name-iterator) ×
    (map (field_by const_tree) l.values.items ≡ map (field_by value_tree) l.yielded) ×
    (fields_have_variable (fields_by value_tree (into_iter_items l.name-iterator)) ≡ false)

abbrev pub invariant-consts_of-loop-item : goal.invariant-consts_of-loop-item
invariant-consts_of-loop-item l =
    (l.fn.items.items ≡ l.yielded ++ into_iter_items l.item-iterator) ×
    (map const_tree l.values.items ≡ map value_tree l.yielded) ×
    (trees_have_variable (trees_by value_tree (into_iter_items l.item-iterator)) ≡ false)
