use Rattle.std.proofs.Common.{List, drop, ap, codes, sym, ◌∙◌}
use Rattle.std.proofs.lemmas.List.{at_drop_all}
use Rattle.graphql_parser.specs.trees.Request.{of_field, of_inline_fragment, set_of}
use Rattle.graphql_parser.specs.trees.RequestViews.{field_tree, inline_fragment_tree, selection_trees}
use Rattle.graphql_json.proofs.Steps.{next, next_optional, as_tokens, whole_node, whole_list, same_option}
use Rattle.graphql_parser.specs.types.Positioned.{Positioned}
use Rattle.graphql_trees.specs.declared.executable.Field.{Field, out-Field}
use Rattle.graphql_trees.specs.declared.executable.SelectionSet.{SelectionSet}
use Rattle.graphql_json.proofs.Selections.{field_parts, field_of_parts, inline_parts, inline_of_parts, json_of_parts, tree_of_set, some_set}
use Rattle.graphql_json.specs.inner.Written.{member_tokens, optional_tokens, opening}
use Rattle.graphql_json.specs.nodes.Nodes.{placed_json}
use Rattle.graphql_json.specs.nodes.Requests.{selections_json}
use Rattle.graphql_json.specs.nodes.Values.{name_json}
use Rattle.json.specs.Json.{array}
use Rattle.json.specs.Tree.{json_tokens}
use Rattle.graphql_json.proofs.request.+set.Goals as goal

pub write_set-returns : goal.write_set-returns
write_set-returns t c =
    let opened = as_tokens (ap (λ place. opening _ place) c.at.ensures) c.in_ok-begin.ensures in
    next c.in_ok-key.ensures (whole_node _ _ _ opened (next c.in_ok-write_selections.ensures c.close.ensures))

pub write_selections-returns : goal.write_selections-returns
write_selections-returns t c =
    let lent = c.deref-item-items in
    let json = λ (items : List _). selections_json c.args.place (set_of (selection_trees items)) in
    let none = at_drop_all json lent.result.now c.loop-item.item-index c.loop-item-test.false in
    as_tokens (ap (λ items. member_tokens (codes "selections") (array (json items))) lent.ensures.value ∙ ap (λ set. member_tokens (codes "selections") (array (selections_json c.args.place set))) (tree_of_set c.args.set.now))
    (whole_list (json lent.result.now) (json (drop c.loop-item.item-index lent.result.now)) c.in_ok-open_list.ensures c.loop-item.invariant none c.close_list.ensures)

pub write_field-returns : goal.write_field-returns
write_field-returns t c =
    let place = c.args.place in
    let field : Positioned Field = c.args.field.now in
    let opened = as_tokens (ap (λ p. opening _ p) c.at.ensures) c.in_ok-begin.ensures in
    let alias = as_tokens (ap (λ a. optional_tokens (codes "alias") (placed_json name_json place) a) (same_option (out-Field field.node).alias)) c.in_ok-optional.ensures in
    as_tokens (ap json_tokens (json_of_parts place of_field field_parts field_tree field_of_parts field))
    (whole_node _ _ _ opened
    (next_optional _ _ _ _ alias (next c.in_ok-node.ensures (next c.in_ok-write_arguments.ensures (next c.in_ok-nodes.ensures (next_optional _ _ _ _ c.in_ok-write_optional_set.ensures c.close.ensures))))))

pub write_inline_fragment-returns : goal.write_inline_fragment-returns
write_inline_fragment-returns t c =
    let opened = as_tokens (ap (λ p. opening _ p) c.at.ensures) c.in_ok-begin.ensures in
    as_tokens (ap json_tokens (json_of_parts c.args.place of_inline_fragment inline_parts inline_fragment_tree inline_of_parts c.args.fragment.now))
    (whole_node _ _ _ opened (next_optional _ _ _ _ c.in_ok-optional.ensures (next c.in_ok-nodes.ensures (next c.in_ok-write_set.ensures c.close.ensures))))

pub write_optional_set-returns : goal.write_optional_set-returns
write_optional_set-returns t c =
    let set : Positioned SelectionSet = c.args.set.now in
    as_tokens (some_set c.args.place set.pos set.node (sym c.is_empty.ensures ∙ c.if-is_empty.false)) c.write_set.ensures
