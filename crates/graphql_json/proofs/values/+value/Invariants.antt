use Rattle.std.proofs.Common.{◌+◌, ◌*◌}
use Rattle.graphql_parser.specs.calls.Views.{view_tree, list_items, object_fields, items_left, fields_left}
use Rattle.graphql_parser.specs.trees.ValueTree.{trees_of, fields_of}
use Rattle.graphql_json.specs.nodes.Values.{items_json, fields_json}
use Rattle.graphql_syntax.proofs.ValueTexts.{size, size_of_items, size_of_fields}
use Rattle.graphql_json.proofs.Steps.{IsWrittenTo}
use Rattle.graphql_json.proofs.values.+value.Given as goal

abbrev pub decreases-write_value : goal.decreases-write_value
decreases-write_value l = 4 * size (view_tree l.value.now)

abbrev pub decreases-write_field : goal.decreases-write_field
decreases-write_field l = 4 * size (view_tree l.value.now) + 1

abbrev pub decreases-write_items : goal.decreases-write_items
decreases-write_items l = 4 * size_of_items (trees_of (list_items l.items.now)) + 2

abbrev pub decreases-write_fields : goal.decreases-write_fields
decreases-write_fields l = 4 * size_of_fields (fields_of (object_fields l.fields.now)) + 2

abbrev pub invariant-write_items-loop-item : goal.invariant-write_items-loop-item
invariant-write_items-loop-item l =
    (goal.iterator-write_items-loop-item).can_next l.item-iterator
    × (goal.iterator-write_items-loop-item).is_finite l.item-iterator
    × IsWrittenTo size_of_items (items_json l.place) (trees_of (list_items l.fn.items)) (trees_of (items_left l.item-iterator)) l.initial.sheet l.sheet

abbrev pub invariant-write_fields-loop-name : goal.invariant-write_fields-loop-name
invariant-write_fields-loop-name l =
    (goal.iterator-write_fields-loop-name).can_next l.name-iterator
    × (goal.iterator-write_fields-loop-name).is_finite l.name-iterator
    × IsWrittenTo size_of_fields (fields_json l.place) (fields_of (object_fields l.fn.fields)) (fields_of (fields_left l.name-iterator)) l.initial.sheet l.sheet
