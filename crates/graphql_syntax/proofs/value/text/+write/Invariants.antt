use Rattle.std.proofs.Common.{◌≤◌, codes}
use denote.Shadow.{shadow}
use denote.Text.{Utf8}
use Rattle.graphql_syntax.specs.calls.Views.{view_tree, list_items, object_fields, items_left, fields_left}
use Rattle.graphql_syntax.specs.trees.ValueTree.{trees_of, fields_of}
use Rattle.graphql_syntax.specs.trees.ValueText.{item_texts, field_texts}
use Rattle.graphql_syntax.proofs.ValueTexts.{HasWrittenTexts, size, size_of_items, size_of_fields}
use Rattle.graphql_syntax.proofs.value.text.+write.Given as goal

abbrev pub decreases-write_view : goal.decreases-write_view
decreases-write_view g l = size (view_tree l.view.now)

abbrev pub decreases-write_list : goal.decreases-write_list
decreases-write_list g l = size_of_items (trees_of (list_items l.items.now))

abbrev pub decreases-write_object : goal.decreases-write_object
decreases-write_object g l = size_of_fields (fields_of (object_fields l.fields.now))

abbrev pub invariant-write_list-loop-item : goal.invariant-write_list-loop-item
invariant-write_list-loop-item g l =
    shadow (Utf8 l.before)
    × (size_of_items (trees_of (items_left l.item-iterator)) ≤ size_of_items (trees_of (list_items l.fn.items)))
    × HasWrittenTexts g.W.Write.write_str_gives (codes "[") (item_texts (trees_of (list_items l.fn.items))) l.fn.f l.before (item_texts (trees_of (items_left l.item-iterator))) l.f

abbrev pub invariant-write_object-loop-name : goal.invariant-write_object-loop-name
invariant-write_object-loop-name g l =
    shadow (Utf8 l.before)
    × (size_of_fields (fields_of (fields_left l.name-iterator)) ≤ size_of_fields (fields_of (object_fields l.fn.fields)))
    × HasWrittenTexts g.W.Write.write_str_gives (codes "{") (field_texts (fields_of (object_fields l.fn.fields))) l.fn.f l.before (field_texts (fields_of (fields_left l.name-iterator))) l.f
