use Rattle.std.proofs.Common.{◌≡◌, List, length, ap, sym, ◌∙◌, ◌++◌, arith}
use Rattle.std.specs.Vec.{vec_len}
use Rattle.std.proofs.lemmas.List.{at_drop_all, length-map}
use Rattle.graphql_parser.specs.trees.Parts.{placed}
use Rattle.graphql_parser.specs.trees.Request as request
use Rattle.graphql_parser.specs.trees.RequestViews.{selection_tree, selection_trees}
use Rattle.graphql_parser.specs.types.Positioned.{Positioned}
use Rattle.graphql_parser.proofs.Requests.{field_tree_out, inline_fragment_tree_out, set_tree_out}
use Rattle.graphql_trees.specs.declared.executable.Field.{Field, out-Field}
use Rattle.graphql_trees.specs.declared.executable.InlineFragment.{InlineFragment}
use Rattle.graphql_trees.specs.declared.executable.SelectionSet.{SelectionSet, out-SelectionSet}
use Rattle.graphql_packed.proofs.Counts.{selections_counted}
use Rattle.graphql_packed.proofs.Steps.{next, as_bytes, own_option, whole_list}
use Rattle.graphql_packed.specs.packed.Bytes.{number_bytes, text_bytes}
use Rattle.graphql_packed.specs.packed.Requests.{selection_bytes, selections_bytes, selections_count, set_bytes}
use Rattle.graphql_packed.proofs.request.+set.Goals as goal

pub pack_selections-returns : goal.pack_selections-returns
pack_selections-returns t c =
    let set : SelectionSet = c.args.set.now in
    let items = (out-SelectionSet set).items in
    let lent = c.deref-item-items in
    let bytes = λ (selections : List (Positioned _)). selections_bytes (request.set_of (selection_trees selections)) in
    let many : length items.items ≡ vec_len items = omega (arith, items.ok.0) in
    let counted = c.len.ensures ∙ sym (selections_counted (selection_trees items.items) ∙ length-map items.items (placed selection_tree) ∙ many) in
    let number = as_bytes (ap (λ n. number_bytes n) counted) c.in_ok-number.ensures in
    let none = at_drop_all bytes lent.result.now c.loop-item.item-index c.loop-item-test.false in
    as_bytes (ap (λ (selections : List (Positioned _)). number_bytes (selections_count (request.set_of (selection_trees items.items))) ++ bytes selections) lent.ensures.value ∙ sym (ap set_bytes (set_tree_out set)))
    (whole_list (bytes lent.result.now) _ number c.loop-item.invariant none)

pub pack_field-returns : goal.pack_field-returns
pack_field-returns t c =
    let field : Positioned Field = c.args.field.now in
    let alias = own_option text_bytes (out-Field field.node).alias c.in_ok-optional.ensures in
    let head = next (next (next c.in_ok-choice.ensures c.in_ok-place.ensures) alias) c.in_ok-node.ensures in
    as_bytes (ap (λ (n : request.Field). selection_bytes (request.of_field (record { pos = field.pos; node = n }))) (sym (field_tree_out field.node)))
    (next (next (next head c.in_ok-pack_arguments.ensures) c.in_ok-nodes.ensures) c.pack_set.ensures)

pub pack_inline_fragment-returns : goal.pack_inline_fragment-returns
pack_inline_fragment-returns t c =
    let fragment : Positioned InlineFragment = c.args.fragment.now in
    let head = next (next c.in_ok-choice.ensures c.in_ok-place.ensures) c.in_ok-optional.ensures in
    as_bytes (ap (λ (n : request.InlineFragment). selection_bytes (request.of_inline_fragment (record { pos = fragment.pos; node = n }))) (sym (inline_fragment_tree_out fragment.node)))
    (next (next head c.in_ok-nodes.ensures) c.pack_set.ensures)
