use Rattle.std.proofs.Common.{ap, codes, sym}
use Rattle.graphql_parser.specs.calls.Views.{view_tree, list_items, object_fields}
use Rattle.graphql_parser.specs.trees.ValueTree.{trees_of, fields_of}
use Rattle.graphql_json.proofs.Steps.{next, as_tokens, whole_node}
use Rattle.graphql_json.specs.nodes.Values.{value_json, items_json, fields_json}
use Rattle.json.specs.Tree.{json_tokens, items_tokens}
use Rattle.graphql_json.proofs.values.+value.Goals as goal

pub write_value-returns-in_ok-write_items-in-List : goal.write_value-returns-in_ok-write_items-in-List
write_value-returns-in_ok-write_items-in-List t c =
    let items = as_tokens (ap (λ place. items_tokens (items_json place (trees_of (list_items c.in-List.items)))) c.nowhere.ensures) c.in_ok-write_items-in-List.ensures in
    as_tokens (ap (λ value. json_tokens (value_json c.args.place (view_tree value))) (sym c.in-List.is))
    (whole_node (codes "ListValue") c.args.place _ c.in_ok-begin-in-List.ensures (next c.in_ok-open_list-in-List.ensures (next items c.close.ensures)))

pub write_value-returns-in_ok-write_fields-in-Object : goal.write_value-returns-in_ok-write_fields-in-Object
write_value-returns-in_ok-write_fields-in-Object t c =
    let fields = as_tokens (ap (λ place. items_tokens (fields_json place (fields_of (object_fields c.in-Object.fields)))) c.nowhere-in-Object.ensures) c.in_ok-write_fields-in-Object.ensures in
    as_tokens (ap (λ value. json_tokens (value_json c.args.place (view_tree value))) (sym c.in-Object.is))
    (whole_node (codes "ObjectValue") c.args.place _ c.in_ok-begin-in-Object.ensures (next c.in_ok-open_list-in-Object.ensures (next fields c.close-in-Object.ensures)))

pub write_field-returns : goal.write_field-returns
write_field-returns t c =
    whole_node _ _ _ c.in_ok-begin.ensures (next c.in_ok-write_name.ensures (next c.in_ok-key.ensures (next c.in_ok-write_value.ensures c.close.ensures)))
