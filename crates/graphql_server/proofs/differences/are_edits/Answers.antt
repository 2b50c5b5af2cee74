use Rattle.std.proofs.Common.{rules, ◌+◌, drop}
use Rattle.std.proofs.lemmas.List.{drop_more}
use Rattle.graphql_server.specs.declared.differences.Edit.{Edit}
use Rattle.graphql_server.proofs.Edited.{edited-step, order-step}
use Rattle.graphql_server.proofs.differences.are_edits.Goals as goal

pub loop-edit-preserved : goal.loop-edit-preserved
loop-edit-preserved c =
    let i = c.loop-edit.edit-index in
    let edits = c.args.edits.now in
    let none : Edit = record { start = 0; end = 0; new_start = 0; new_end = 0 } in
    let next = drop_more edits i none (search rules) in
    let part = c.is_same.ensures (search rules) in
    record {
      made = edited-step _ c.loop-edit.passed c.loop-edit.made c.args.old.now c.args.new.now (drop i edits) (drop (i + 1) edits) _ next part (search rules) c.loop-edit.invariant.made;
      ordered = order-step _ c.loop-edit.passed c.args.old.now (drop i edits) (drop (i + 1) edits) _ next part.old_rises (search rules) c.loop-edit.invariant.ordered;
    }
