use Rattle.std.proofs.Common.{ℕ, List, true, false, refl, ap, ◌∙◌, sym, append-nil}
use Rattle.std.specs.Borrow.{Bor}
use Rattle.std.proofs.lemmas.List.{map_push}
use Rattle.graphql_report.specs.inner.Called.{texts}
use Rattle.graphql_report.proofs.TakenSamples.{taken-next}
use Rattle.graphql_report.proofs.expected.taken.Goals as goal
use Rattle.graphql_report.proofs.expected.taken.Goals.{then-branch+in_ok-push, else-branch}

pub loop-sample-preserved : goal.loop-sample-preserved
loop-sample-preserved c = elim c.if-branch.branch [
  | then-branch+in_ok-push w ↦ taken-next c.args.language c.args.limits c.args.line.now c.args.line.now c.args.samples.now c.loop-sample.sample-index _ (texts c.loop-sample.taken.items) (texts c.if-branch.taken.items) c.in_ok-takes.field-0 true c.loop-sample-test.true refl c.loop-sample.invariant c.in_ok-takes.ensures w.if-branch.true (ap texts (ap (λ t. t.items) w.taken-is ∙ w.in_ok-push.ensures.items) ∙ map_push (λ (name : Bor (List ℕ)). name.now) c.loop-sample.taken.items _)
  | else-branch w ↦ taken-next c.args.language c.args.limits c.args.line.now c.args.line.now c.args.samples.now c.loop-sample.sample-index _ (texts c.loop-sample.taken.items) (texts c.if-branch.taken.items) c.in_ok-takes.field-0 false c.loop-sample-test.true refl c.loop-sample.invariant c.in_ok-takes.ensures w.if-branch.false (ap (λ t. texts t.items) w.taken-is ∙ sym (append-nil (texts c.loop-sample.taken.items)))
]
