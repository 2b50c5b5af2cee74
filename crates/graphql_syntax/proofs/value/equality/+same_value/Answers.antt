use Rattle.std.proofs.Common.{true, false, Bool, refl, sym, ◌∙◌}
use Rattle.graphql_syntax.specs.trees.ValueViews.{value_tree, field_by}
use Rattle.graphql_syntax.proofs.TreeLists.{items_from, fields_from}
use Rattle.graphql_syntax.proofs.value.equality.+same_value.Goals as goal
use Rattle.graphql_syntax.proofs.value.equality.+same_value.Goals.{same_value_fields-then-ne-via-then-ne, same_value_fields-then-ne-via-else-ne+then-not-same_value}

pub same_value_items-loop-i-preserved : goal.same_value_items-loop-i-preserved
same_value_items-loop-i-preserved t c =
    items_from value_tree c.args.xs.now.items c.args.ys.now.items _ c.loop-i.i _ _ true c.deref-x-items.ensures.value c.loop-i-test.true (sym c.args.xs.now.ok.0 ∙ sym c.len.ensures ∙ c.if-len.false ∙ c.len-2.ensures ∙ c.args.ys.now.ok.0) c.x-item.is c.index.ensures
    c.loop-i.invariant c.if-not-same_value.ensures

pub same_value_items-returns-then-not-same_value : goal.same_value_items-returns-then-not-same_value
same_value_items-returns-then-not-same_value t c =
    sym (items_from value_tree c.args.xs.now.items c.args.ys.now.items _ c.loop-i.i _ _ false c.deref-x-items.ensures.value c.loop-i-test.true (sym c.args.xs.now.ok.0 ∙ sym c.len.ensures ∙ c.if-len.false ∙ c.len-2.ensures ∙ c.args.ys.now.ok.0) c.x-item.is c.index.ensures
    c.loop-i.invariant c.if-not-same_value.ensures)

pub same_value_fields-loop-i-preserved : goal.same_value_fields-loop-i-preserved
same_value_fields-loop-i-preserved t c =
    fields_from (field_by value_tree) c.args.xs.now.items c.args.ys.now.items _ c.loop-i.i _ _ false true c.deref-x-items.ensures.value c.loop-i-test.true (sym c.args.xs.now.ok.0 ∙ sym c.len.ensures ∙ c.if-len.false ∙ c.len-2.ensures ∙ c.args.ys.now.ok.0) c.x-item.is c.index-y.ensures
    c.loop-i.invariant c.if-ne.ensures c.if-not-same_value.ensures

pub same_value_fields-returns-then-ne : goal.same_value_fields-returns-then-ne
same_value_fields-returns-then-ne t c =
    let decided = λ (other same : Bool). fields_from (field_by value_tree) c.args.xs.now.items c.args.ys.now.items _ c.loop-i.i _ _ other same c.deref-x-items.ensures.value c.loop-i-test.true (sym c.args.xs.now.ok.0 ∙ sym c.len.ensures ∙ c.if-len.false ∙ c.len-2.ensures ∙ c.args.ys.now.ok.0) c.x-item.is c.index-y.ensures c.loop-i.invariant in
    elim c.then-ne.branch [
      | same_value_fields-then-ne-via-then-ne w ↦ sym (decided true _ w.if-ne.ensures refl)
      | same_value_fields-then-ne-via-else-ne+then-not-same_value w ↦ sym (decided false false w.if-ne.ensures w.if-not-same_value.ensures)
    ]
