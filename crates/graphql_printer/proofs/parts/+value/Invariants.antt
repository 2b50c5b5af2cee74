use Rattle.std.proofs.Common.{◌+◌, ◌*◌}
use Rattle.graphql_syntax.specs.calls.Views.{view_tree, list_items, object_fields, items_left, fields_left}
use Rattle.graphql_syntax.specs.trees.ValueTree.{trees_of, fields_of}
use Rattle.graphql_syntax.proofs.ValueTexts.{size, size_of_items, size_of_fields}
use Rattle.graphql_printer.specs.inner.Shown.{shown_items, shown_fields}
use Rattle.graphql_printer.proofs.Printing.{IsPrintedTo}
use Rattle.graphql_printer.proofs.parts.+value.Given as goal

abbrev pub decreases-print_value : goal.decreases-print_value
decreases-print_value l = 4 * size (view_tree l.value.now)

abbrev pub decreases-print_field : goal.decreases-print_field
decreases-print_field l = 4 * size (view_tree l.value.now) + 1

abbrev pub decreases-print_items : goal.decreases-print_items
decreases-print_items l = 4 * size_of_items (trees_of (list_items l.items.now)) + 2

abbrev pub decreases-print_fields : goal.decreases-print_fields
decreases-print_fields l = 4 * size_of_fields (fields_of (object_fields l.fields.now)) + 2

abbrev pub invariant-print_items-loop-item : goal.invariant-print_items-loop-item
invariant-print_items-loop-item l =
    (goal.iterator-print_items-loop-item).can_next l.item-iterator
    × (goal.iterator-print_items-loop-item).is_finite l.item-iterator
    × IsPrintedTo size_of_items shown_items (trees_of (list_items l.fn.items)) (trees_of (items_left l.item-iterator)) l.initial.out l.out

abbrev pub invariant-print_fields-loop-name : goal.invariant-print_fields-loop-name
invariant-print_fields-loop-name l =
    (goal.iterator-print_fields-loop-name).can_next l.name-iterator
    × (goal.iterator-print_fields-loop-name).is_finite l.name-iterator
    × IsPrintedTo size_of_fields shown_fields (fields_of (object_fields l.fn.fields)) (fields_of (fields_left l.name-iterator)) l.initial.out l.out
