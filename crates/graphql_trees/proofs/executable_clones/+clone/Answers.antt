use Rattle.std.proofs.Common.{◌≡◌, refl, sym, ◌∙◌, ap}
use Rattle.std.proofs.lemmas.List.{take_all}
use Rattle.graphql_tokens.specs.declared.pos.Positioned.{Positioned}
use Rattle.graphql_trees.specs.declared.executable.Field.{Field, out-Field}
use Rattle.graphql_trees.specs.declared.executable.InlineFragment.{InlineFragment, out-InlineFragment}
use Rattle.graphql_trees.specs.declared.executable.Selection.{Selection}
use Rattle.graphql_trees.specs.declared.executable.Selection.TheOpen.{Field-F, InlineFragment-F, SelectionSet-F}
use Rattle.graphql_trees.specs.declared.executable.SelectionSet.{SelectionSet, out-SelectionSet}
use Rattle.graphql_trees.specs.trees.Request as request
use Rattle.graphql_syntax.specs.trees.PartViews.{directive_tree}
use Rattle.graphql_trees.specs.trees.RequestViews.{selection_set_tree, field_tree, fragment_spread_tree, inline_fragment_tree, selection_tree, selection_trees, type_condition_tree}
use Rattle.graphql_syntax.specs.trees.ValueViews.{value_tree}
use Rattle.graphql_syntax.proofs.Clones.{same_optional_node, same_node, same_placed, same_list, same_option, same_arguments}
use Rattle.graphql_trees.proofs.Requests.{set_tree_roll, set_tree_out, tree_of_field, tree_of_inline_fragment, tree_of_spread, field_tree_roll, field_tree_out, inline_fragment_tree_roll, inline_fragment_tree_out}
use Rattle.graphql_trees.proofs.SameRequests.{same_spread}
use Rattle.graphql_trees.proofs.executable_clones.+clone.Goals as goal

pub FieldClone::clone-returns : goal.FieldClone::clone-returns
FieldClone::clone-returns t c =
    let self = out-Field c.args.self.now in
    let name = same_node self.name c.in_ok-clone-2.field-0 c.in_ok-clone-2.ensures.cases in
    let arguments = same_arguments value_tree self.arguments.items c.in_ok-clone-3.field-0.items c.in_ok-clone-3.ensures.cases.0 in
    let directives = same_list directive_tree self.directives.items c.in_ok-clone-4.field-0.items c.in_ok-clone-4.ensures.cases.0 in
    let alias = same_optional_node self.alias c.in_ok-clone.field-0 c.in_ok-clone.ensures.cases in
    let set = same_placed selection_set_tree self.selection_set (record { pos = self.selection_set.pos; node = c.in_ok-clone-5.field-0 }) (refl, c.in_ok-clone-5.ensures.cases) in
    let made : Field-F Selection Field InlineFragment SelectionSet = record { alias = c.in_ok-clone.field-0; name = c.in_ok-clone-2.field-0; arguments = c.in_ok-clone-3.field-0; directives = c.in_ok-clone-4.field-0; selection_set = record { pos = self.selection_set.pos; node = c.in_ok-clone-5.field-0 } } in
    record { cases = field_tree_roll made ∙ (λ i. record { alias = alias i; name = name i; arguments = arguments i; directives = directives i; selection_set = set i }) ∙ sym (field_tree_out c.args.self.now) }

pub InlineFragmentClone::clone-returns : goal.InlineFragmentClone::clone-returns
InlineFragmentClone::clone-returns t c =
    let self = out-InlineFragment c.args.self.now in
    let condition = same_option type_condition_tree self.type_condition c.in_ok-clone.field-0 c.in_ok-clone.ensures.cases in
    let directives = same_list directive_tree self.directives.items c.in_ok-clone-2.field-0.items c.in_ok-clone-2.ensures.cases.0 in
    let set = same_placed selection_set_tree self.selection_set (record { pos = self.selection_set.pos; node = c.in_ok-clone-3.field-0 }) (refl, c.in_ok-clone-3.ensures.cases) in
    let made : InlineFragment-F Selection Field InlineFragment SelectionSet = record { type_condition = c.in_ok-clone.field-0; directives = c.in_ok-clone-2.field-0; selection_set = record { pos = self.selection_set.pos; node = c.in_ok-clone-3.field-0 } } in
    record { cases = inline_fragment_tree_roll made ∙ (λ i. record { type_condition = condition i; directives = directives i; selection_set = set i }) ∙ sym (inline_fragment_tree_out c.args.self.now) }

pub SelectionClone::clone-returns-in_ok-node-in-Field : goal.SelectionClone::clone-returns-in_ok-node-in-Field
SelectionClone::clone-returns-in_ok-node-in-Field t c =
    let made : Positioned Field = record { pos = c.in-Field.field.pos; node = c.in_ok-node-in-Field.node } in
    let clone = same_placed field_tree c.in-Field.field made (refl, c.in_ok-node-in-Field.ensures.cases) in
    record { cases = tree_of_field made ∙ ap request.of_field clone ∙ sym (ap selection_tree c.in-Field.is ∙ tree_of_field c.in-Field.field) }

pub SelectionClone::clone-returns-in_ok-node-in-InlineFragment : goal.SelectionClone::clone-returns-in_ok-node-in-InlineFragment
SelectionClone::clone-returns-in_ok-node-in-InlineFragment t c =
    let made : Positioned InlineFragment = record { pos = c.in-InlineFragment.fragment.pos; node = c.in_ok-node-in-InlineFragment.node } in
    let clone = same_placed inline_fragment_tree c.in-InlineFragment.fragment made (refl, c.in_ok-node-in-InlineFragment.ensures.cases) in
    record { cases = tree_of_inline_fragment made ∙ ap request.of_inline_fragment clone ∙ sym (ap selection_tree c.in-InlineFragment.is ∙ tree_of_inline_fragment c.in-InlineFragment.fragment) }

pub SelectionClone::clone-returns-in_ok-clone-in-FragmentSpread : goal.SelectionClone::clone-returns-in_ok-clone-in-FragmentSpread
SelectionClone::clone-returns-in_ok-clone-in-FragmentSpread t c =
    let spread = c.in-FragmentSpread.spread in
    let made = c.in_ok-clone-in-FragmentSpread.field-0 in
    let copied = c.in_ok-clone-in-FragmentSpread.ensures.cases in
    let clone = same_placed fragment_spread_tree spread made (copied.0, same_spread spread.node made.node copied.1) in
    record { cases = tree_of_spread made ∙ ap request.fragment_spread clone ∙ sym (ap selection_tree c.in-FragmentSpread.is ∙ tree_of_spread spread) }

pub SelectionSetClone::clone-returns : goal.SelectionSetClone::clone-returns
SelectionSetClone::clone-returns t c =
    let whole = take_all c.loop-item.item-index c.deref-item-items.result.now c.loop-item-test.false ∙ c.deref-item-items.ensures.value in
    let items : selection_trees c.loop-item.items.items ≡ selection_trees (out-SelectionSet c.args.self.now).items.items = c.loop-item.invariant ∙ ap selection_trees whole in
    let made : SelectionSet-F Selection Field InlineFragment SelectionSet = record { items = c.loop-item.items } in
    record { cases = set_tree_roll made ∙ ap request.set_of items ∙ sym (set_tree_out c.args.self.now) }
