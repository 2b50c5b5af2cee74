use Rattle.std.proofs.Common.{◌+◌, ◌*◌}
use Rattle.graphql_parser.specs.calls.Views.{view_tree, list_items, object_fields, items_left, fields_left}
use Rattle.graphql_parser.specs.trees.ValueTree.{trees_of, fields_of}
use Rattle.graphql_packed.proofs.Steps.{IsWrittenTo}
use Rattle.graphql_packed.specs.packed.Values.{items_bytes, fields_bytes}
use Rattle.graphql_syntax.proofs.ValueTexts.{size, size_of_items, size_of_fields}
use Rattle.graphql_packed.proofs.values.+value.Given as goal

abbrev pub decreases-pack_value : goal.decreases-pack_value
decreases-pack_value l = 4 * size (view_tree l.value.now)

abbrev pub decreases-pack_items : goal.decreases-pack_items
decreases-pack_items l = 4 * size_of_items (trees_of (list_items l.items.now)) + 2

abbrev pub decreases-pack_fields : goal.decreases-pack_fields
decreases-pack_fields l = 4 * size_of_fields (fields_of (object_fields l.fields.now)) + 2

abbrev pub invariant-pack_items-loop-item : goal.invariant-pack_items-loop-item
invariant-pack_items-loop-item l =
    (goal.iterator-pack_items-loop-item).can_next l.item-iterator
    × (goal.iterator-pack_items-loop-item).is_finite l.item-iterator
    × IsWrittenTo size_of_items items_bytes (trees_of (list_items l.fn.items)) (trees_of (items_left l.item-iterator)) l.initial.buffer l.buffer

abbrev pub invariant-pack_fields-loop-name : goal.invariant-pack_fields-loop-name
invariant-pack_fields-loop-name l =
    (goal.iterator-pack_fields-loop-name).can_next l.name-iterator
    × (goal.iterator-pack_fields-loop-name).is_finite l.name-iterator
    × IsWrittenTo size_of_fields fields_bytes (fields_of (object_fields l.fn.fields)) (fields_of (fields_left l.name-iterator)) l.initial.buffer l.buffer
