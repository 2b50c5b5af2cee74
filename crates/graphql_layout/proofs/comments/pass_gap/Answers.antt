use Rattle.graphql_layout.proofs.Hashes.{hash, none_passed, one_passed, all_passed}
use Rattle.graphql_layout.proofs.comments.pass_gap.Goals as goal

pub loop-blanks-init : goal.loop-blanks-init
loop-blanks-init c = (c.utf8.gap, none_passed c.args.gap.now c.args.passed.now.items c.utf8.gap)

pub loop-blanks-smaller : goal.loop-blanks-smaller
loop-blanks-smaller c = (hash c.loop-blanks.rest.now c.in-Some.blanks.now c.in-Some.from.now c.split_line.result.0.now c.split_line.result.1.now c.loop-blanks.invariant.0 c.in-Some.ensures c.split_line.ensures).shorter

pub loop-blanks-preserved : goal.loop-blanks-preserved
loop-blanks-preserved c =
    let h = hash c.loop-blanks.rest.now c.in-Some.blanks.now c.in-Some.from.now c.split_line.result.0.now c.split_line.result.1.now c.loop-blanks.invariant.0 c.in-Some.ensures c.split_line.ensures in
    (h.after_utf8, one_passed c.args.gap.now c.loop-blanks.rest.now c.in-Some.from.now c.split_line.result.1.now _ c.args.passed.now.items c.loop-blanks.passed.items c.push.new.self.items c.loop-blanks.invariant.1 h c.in_ok-push.ensures.items)

pub returns : goal.returns
returns c = all_passed c.args.gap.now c.loop-blanks.rest.now c.args.passed.now.items c.loop-blanks.passed.items c.loop-blanks.invariant.1 c.in_default.ensures
