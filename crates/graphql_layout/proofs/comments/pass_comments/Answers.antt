use Rattle.std.proofs.Common.{List, [], ◌∷◌, sym, subst}
use Rattle.graphql_layout.specs.declared.comments.Passed.{Passed}
use Rattle.graphql_layout.specs.inner.Standing.{IsPassed}
use Rattle.graphql_layout.proofs.Aheads.{then_passed, passed_cut, passed_long}
use Rattle.graphql_layout.proofs.comments.pass_comments.Goals as goal

pub loop-comment-preserved : goal.loop-comment-preserved
loop-comment-preserved c =
    let k = c.in-Some.ensures.0 in
    let all = then_passed c.args.text.now c.loop-comment.rest.now c.in-Some.after.now c.loop-comment.passed.items (c.in-Some.comment ∷ []) c.loop-comment.invariant.1 k in
    (k.utf8, subst (λ (l : List Passed). IsPassed c.args.text.now l c.in-Some.after.now) (sym c.in_ok-push.ensures.items) all)

pub returns-clause-passed : goal.returns-clause-passed
returns-clause-passed c = (passed_cut c.args.text.now c.loop-comment.rest.now c.loop-comment.passed.items c.loop-comment.invariant.1).passes

pub returns-clause-boundary : goal.returns-clause-boundary
returns-clause-boundary c = (passed_cut c.args.text.now c.loop-comment.rest.now c.loop-comment.passed.items c.loop-comment.invariant.1).boundary

pub overflow_sub-result : goal.overflow_sub-result
overflow_sub-result c = passed_long c.args.text.now c.loop-comment.rest.now c.loop-comment.passed.items c.loop-comment.invariant.1
