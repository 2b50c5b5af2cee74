use Rattle.graphql_layout.proofs.Hashes.{all_pushed}
use Rattle.graphql_layout.proofs.comments.push_ignored.Goals as goal

pub returns-then-length-eq0-clause-written : goal.returns-then-length-eq0-clause-written
returns-then-length-eq0-clause-written c items h z =
    all_pushed c.args.gap.now c.args.passed.now.items c.pass_ignored.new.passed.items c.args.sheet.now c.push_passed.new.sheet c.in_ok-length.ensures c.in_ok-before.ensures.written items h z

pub returns-clause-written : goal.returns-clause-written
returns-clause-written c items h z =
    all_pushed c.args.gap.now c.args.passed.now.items c.pass_ignored.new.passed.items c.args.sheet.now c.push_passed.new.sheet c.in_ok-length.ensures c.in_ok-before.ensures.written items h z
