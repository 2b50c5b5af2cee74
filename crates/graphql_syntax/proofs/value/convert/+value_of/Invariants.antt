use Rattle.std.proofs.Common.{◌≡◌, ◌++◌, map}
use Rattle.std.specs.Vec.Iter.{into_iter_items}
use Rattle.graphql_syntax.specs.trees.ValueViews.{field_by, const_tree, value_tree}
use Rattle.graphql_syntax.proofs.value.convert.+value_of.Given as goal

abbrev pub invariant-fields_of-loop-name : goal.invariant-fields_of-loop-name
invariant-fields_of-loop-name l =
    (l.fn.fields.items ≡ l.yielded ++ into_iter_items l.name-iterator) ×
    (map (field_by value_tree) l.values.items ≡ map (field_by const_tree) l.yielded)

abbrev pub invariant-values_of-loop-item : goal.invariant-values_of-loop-item
invariant-values_of-loop-item l =
    (l.fn.items.items ≡ l.yielded ++ into_iter_items l.item-iterator) ×
    (map value_tree l.values.items ≡ map const_tree l.yielded)
