use Rattle.graphql_layout.proofs.FirstHashes.{clear_gap}
use Rattle.graphql_layout.proofs.Hashes.{none_passed, all_passed}
use Rattle.graphql_layout.proofs.comments.pass_ignored.Goals as goal

pub returns-then-left-ahead : goal.returns-then-left-ahead
returns-then-left-ahead c =
    let clear = clear_gap c.args.ahead.hash c.args.left c.args.ahead.rest.now c.args.gap.now c.requires.clear c.if-left-ahead.true c.requires.within c.requires.gap c.utf8.gap in
    all_passed c.args.gap.now c.args.gap.now c.args.passed.now.items c.args.passed.now.items (none_passed c.args.gap.now c.args.passed.now.items c.utf8.gap) clear
