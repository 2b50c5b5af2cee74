use Rattle.std.proofs.lemmas.Result.{err_from_is_err_and}
use Rattle.graphql_parser.specs.Levels.{opens}
use Rattle.graphql_parser.proofs.Values.{value-stops, value-simple, value-enters}
use Rattle.graphql_parser.proofs.check.value.check_value.Goals as goal

pub returns-in_err-enter-clause-checks : goal.returns-in_err-enter-clause-checks
returns-in_err-enter-clause-checks c =
    let p = err_from_is_err_and c.from_residual.result c.from_residual.ensures.1 in
    let stopped = value-stops c.args.vars c.values-limit.result c.args.parser.now c.enter.new.parser c.in_err-enter.field-0.0 c.in_err-enter.ensures.gives.0 in
    rw (p.1, p.2) (rw c.values-limit.ensures at stopped, c.in_err-enter.ensures.gives.1)

pub returns-in-None-clause-checks : goal.returns-in-None-clause-checks
returns-in-None-clause-checks c =
    let none = rw c.in-None.is at c.in_ok-enter.ensures.gives in
    let read = value-simple c.check_simple.result c.args.vars c.values-limit.result c.args.parser.now c.enter.new.parser c.check_simple.new.parser none.0 none.1 c.check_simple.ensures.checks in
    rw c.values-limit.ensures at read

pub returns-in-Some-clause-checks : goal.returns-in-Some-clause-checks
returns-in-Some-clause-checks c =
    let found = rw c.in-Some.is at c.in_ok-enter.ensures.gives in
    let read = value-enters c.check_open.result c.args.vars c.values-limit.result c.args.parser.now c.enter.new.parser c.check_open.new.parser (opens c.in-Some.first) found.0 found.1 c.check_open.ensures.checks in
    rw c.values-limit.ensures at read
