use Rattle.std.proofs.Common.{true, ap, Ok, Err}
use Rattle.std.proofs.lemmas.Result.{err_from_is_err_and}
use Rattle.graphql_reading.specs.grammar.Tests.{punct}
use Rattle.graphql_reading.specs.reading.Outcome.{one_at}
use Rattle.graphql_grammar.specs.reading.Arguments.{directives_at}
use Rattle.graphql_parser.specs.Checked.{rest_of}
use Rattle.graphql_parser.proofs.Heads.{inline-goes}
use Rattle.graphql_parser.proofs.Lines.{then-goes, then-stops}
use Rattle.graphql_parser.proofs.check.selections.heads.check_inline.Goals as goal

pub returns-in_err-check_directives-clause-checks : goal.returns-in_err-check_directives-clause-checks
returns-in_err-check_directives-clause-checks c =
    let p = err_from_is_err_and c.from_residual-in_err-check_directives.result c.from_residual-in_err-check_directives.ensures.1 in
    rw (p.1, p.2) (inline-goes c.args.limits.values {X = Unit {0}} (Err _) c.args.parser.now c.check_maybe_condition.new.parser c.check_directives.new.parser c.in_ok-check_maybe_condition.ensures.checks
    (then-stops _ c.check_maybe_condition.new.parser c.check_directives.new.parser (directives_at true c.args.limits.values) (one_at (punct "{")) c.in_err-check_directives.ensures.checks.0, c.in_err-check_directives.ensures.checks.1))

pub returns-in_err-expect_punct-clause-checks : goal.returns-in_err-expect_punct-clause-checks
returns-in_err-expect_punct-clause-checks c =
    let p = err_from_is_err_and c.from_residual-in_err-expect_punct.result c.from_residual-in_err-expect_punct.ensures.1 in
    rw (p.1, p.2) (inline-goes c.args.limits.values {X = Unit {0}} (Err _) c.args.parser.now c.check_maybe_condition.new.parser c.expect_punct.new.self c.in_ok-check_maybe_condition.ensures.checks
    (then-goes {X = Unit {0}} (Err _) c.check_maybe_condition.new.parser c.check_directives.new.parser c.expect_punct.new.self (directives_at true c.args.limits.values) (one_at (punct "{")) c.in_ok-check_directives.ensures.checks.0 c.in_ok-check_directives.ensures.checks.1 c.in_err-expect_punct.ensures.gives))

pub returns-clause-checks : goal.returns-clause-checks
returns-clause-checks c =
    inline-goes c.args.limits.values {X = Unit {0}} (Ok tt) c.args.parser.now c.check_maybe_condition.new.parser c.expect_punct.new.self c.in_ok-check_maybe_condition.ensures.checks
    (then-goes {X = Unit {0}} (Ok tt) c.check_maybe_condition.new.parser c.check_directives.new.parser c.expect_punct.new.self (directives_at true c.args.limits.values) (one_at (punct "{")) c.in_ok-check_directives.ensures.checks.0 c.in_ok-check_directives.ensures.checks.1
    (ap rest_of c.in_ok-expect_punct.ensures.gives.0, c.in_ok-expect_punct.ensures.gives.1))
