use Rattle.std.proofs.Common.{ap, sym, ◌∙◌}
use Rattle.graphql_parser.specs.calls.Views.{list_items, object_fields, items_left, fields_left}
use Rattle.graphql_parser.specs.trees.ValueTree.{trees_of, fields_of}
use Rattle.graphql_packed.proofs.Counts.{items_counted, fields_counted}
use Rattle.graphql_packed.proofs.Steps.{next, as_bytes, whole_list}
use Rattle.graphql_packed.specs.packed.Bytes.{number_bytes}
use Rattle.graphql_packed.specs.packed.Values.{items_bytes, fields_bytes}
use Rattle.graphql_packed.proofs.values.+value.Goals as goal

pub pack_items-returns : goal.pack_items-returns
pack_items-returns t c =
    let items = list_items c.args.items.now in
    let number = as_bytes (ap (λ n. number_bytes n) (c.len.ensures ∙ sym (items_counted items))) c.in_ok-number.ensures in
    whole_list (items_bytes (trees_of items)) (items_bytes (trees_of (items_left c.loop-item.item-iterator))) (next c.in_ok-choice.ensures number) c.loop-item.invariant.2.1 (ap (λ left. items_bytes (trees_of left)) c.in-None.ensures.steps.0)

pub pack_fields-returns : goal.pack_fields-returns
pack_fields-returns t c =
    let fields = object_fields c.args.fields.now in
    let number = as_bytes (ap (λ n. number_bytes n) (c.len.ensures ∙ sym (fields_counted fields))) c.in_ok-number.ensures in
    whole_list (fields_bytes (fields_of fields)) (fields_bytes (fields_of (fields_left c.loop-name.name-iterator))) (next c.in_ok-choice.ensures number) c.loop-name.invariant.2.1 (ap (λ left. fields_bytes (fields_of left)) c.in-None.ensures.steps.0)
