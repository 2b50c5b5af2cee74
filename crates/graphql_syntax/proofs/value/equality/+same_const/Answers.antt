use Rattle.std.proofs.Common.{true, false, Bool, refl, sym, ◌∙◌}
use Rattle.graphql_syntax.specs.trees.ValueViews.{const_tree, field_by}
use Rattle.graphql_syntax.proofs.TreeLists.{items_from, fields_from}
use Rattle.graphql_syntax.proofs.value.equality.+same_const.Goals as goal
use Rattle.graphql_syntax.proofs.value.equality.+same_const.Goals.{same_const_fields-then-ne-via-then-ne, same_const_fields-then-ne-via-else-ne+then-not-same_const}

pub same_const_items-loop-i-preserved : goal.same_const_items-loop-i-preserved
same_const_items-loop-i-preserved t c =
    items_from const_tree c.args.xs.now.items c.args.ys.now.items _ c.loop-i.i _ _ true c.deref-x-items.ensures.value c.loop-i-test.true (sym c.args.xs.now.ok.0 ∙ sym c.len.ensures ∙ c.if-len.false ∙ c.len-2.ensures ∙ c.args.ys.now.ok.0) c.x-item.is c.index.ensures
    c.loop-i.invariant c.if-not-same_const.ensures

pub same_const_items-returns-then-not-same_const : goal.same_const_items-returns-then-not-same_const
same_const_items-returns-then-not-same_const t c =
    sym (items_from const_tree c.args.xs.now.items c.args.ys.now.items _ c.loop-i.i _ _ false c.deref-x-items.ensures.value c.loop-i-test.true (sym c.args.xs.now.ok.0 ∙ sym c.len.ensures ∙ c.if-len.false ∙ c.len-2.ensures ∙ c.args.ys.now.ok.0) c.x-item.is c.index.ensures
    c.loop-i.invariant c.if-not-same_const.ensures)

pub same_const_fields-loop-i-preserved : goal.same_const_fields-loop-i-preserved
same_const_fields-loop-i-preserved t c =
    fields_from (field_by const_tree) c.args.xs.now.items c.args.ys.now.items _ c.loop-i.i _ _ false true c.deref-x-items.ensures.value c.loop-i-test.true (sym c.args.xs.now.ok.0 ∙ sym c.len.ensures ∙ c.if-len.false ∙ c.len-2.ensures ∙ c.args.ys.now.ok.0) c.x-item.is c.index-y.ensures
    c.loop-i.invariant c.if-ne.ensures c.if-not-same_const.ensures

pub same_const_fields-returns-then-ne : goal.same_const_fields-returns-then-ne
same_const_fields-returns-then-ne t c =
    let decided = λ (other same : Bool). fields_from (field_by const_tree) c.args.xs.now.items c.args.ys.now.items _ c.loop-i.i _ _ other same c.deref-x-items.ensures.value c.loop-i-test.true (sym c.args.xs.now.ok.0 ∙ sym c.len.ensures ∙ c.if-len.false ∙ c.len-2.ensures ∙ c.args.ys.now.ok.0) c.x-item.is c.index-y.ensures c.loop-i.invariant in
    elim c.then-ne.branch [
      | same_const_fields-then-ne-via-then-ne w ↦ sym (decided true _ w.if-ne.ensures refl)
      | same_const_fields-then-ne-via-else-ne+then-not-same_const w ↦ sym (decided false false w.if-ne.ensures w.if-not-same_const.ensures)
    ]
