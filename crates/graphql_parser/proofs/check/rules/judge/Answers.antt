use Rattle.std.proofs.lemmas.Grind.{common_steps}
use Rattle.std.proofs.Common.{rules, arith, ◌+◌, suc, take, drop, map, ap, ◌∙◌}
use Rattle.std.proofs.Math.Seq.{split_at}
use Rattle.std.proofs.lemmas.Result.{err_from_is_err_and}
use Rattle.graphql_parser.specs.RequestHeads.{head_tree}
use Rattle.graphql_parser.proofs.HeadFunds.{heads-judged, heads-some, owed-many}
use Rattle.graphql_parser.proofs.Documents.{map-split}
use Rattle.graphql_parser.proofs.Sorted.{breaks}
use Rattle.graphql_parser.proofs.check.rules.judge.Goals as goal

pub returns-in_err-add-clause-document : goal.returns-in_err-add-clause-document
returns-in_err-add-clause-document c =
    let p = err_from_is_err_and c.from_residual.result c.from_residual.ensures.1 in
    let heads = c.args.heads.now in
    let index = c.loop-head.head-index in
    let front = map head_tree (take index heads) in
    rw (p.1, p.2) (breaks (map head_tree heads) front _ (map head_tree (drop (suc index) heads)) _
    (ap (map head_tree) (split_at heads index _ c.loop-head-test.true) ∙ map-split head_tree (take index heads) _ (drop (suc index) heads))
    c.loop-head.invariant.0.unbroken (c.in_err-add.ensures.added front c.loop-head.invariant.0))

pub returns-in_err-add-clause-takes : goal.returns-in_err-add-clause-takes
returns-in_err-add-clause-takes c =
    let took = heads-judged c.args.memory.now c.loop-head.memory c.add.new.memory c.loop-head.head-index c.args.heads.now _ c.loop-head-test.true c.loop-head.invariant.1 c.add.ensures.takes in
    let all = owed-many c.args.heads.now c.if-heads-eq1.false in
    (omega (arith, took, all, heads-some (c.loop-head.head-index + 1) c.args.heads.now), took.1)

pub loop-head-preserved : goal.loop-head-preserved
loop-head-preserved c = (search (rules, common_steps), heads-judged c.args.memory.now c.loop-head.memory c.add.new.memory c.loop-head.head-index c.args.heads.now _ c.loop-head-test.true c.loop-head.invariant.1 c.add.ensures.takes)
