use Rattle.std.proofs.lemmas.Result.{err_from_is_err_and}
use Rattle.graphql_parser.proofs.Heads.{arguments-stop, directives-stop, field-goes}
use Rattle.graphql_parser.proofs.check.selections.heads.check_field.Goals as goal

pub returns-in_err-check_maybe_arguments-clause-gives : goal.returns-in_err-check_maybe_arguments-clause-gives
returns-in_err-check_maybe_arguments-clause-gives c =
    let p = err_from_is_err_and c.from_residual-in_err-check_maybe_arguments.result c.from_residual-in_err-check_maybe_arguments.ensures.1 in
    rw (p.1, p.2) (arguments-stop c.args.limits.values c.args.nests _ c.args.parser.now c.check_names.new.parser c.check_maybe_arguments.new.parser c.in_ok-check_names.ensures.checks c.in_err-check_maybe_arguments.ensures.checks)

pub returns-in_err-check_directives-clause-gives : goal.returns-in_err-check_directives-clause-gives
returns-in_err-check_directives-clause-gives c =
    let p = err_from_is_err_and c.from_residual-in_err-check_directives.result c.from_residual-in_err-check_directives.ensures.1 in
    rw (p.1, p.2) (directives-stop c.args.limits.values c.args.nests c.args.parser.now c.check_names.new.parser c.check_maybe_arguments.new.parser c.in_ok-check_names.ensures.checks c.in_ok-check_maybe_arguments.ensures.checks _ c.check_directives.new.parser c.in_err-check_directives.ensures.checks)

pub returns-clause-gives : goal.returns-clause-gives
returns-clause-gives c = field-goes c.args.limits.values c.args.nests c.args.parser.now c.check_names.new.parser c.check_maybe_arguments.new.parser c.in_ok-check_names.ensures.checks c.in_ok-check_maybe_arguments.ensures.checks c.take_brace.result c.check_directives.new.parser c.take_brace.new.parser c.in_ok-check_directives.ensures.checks c.take_brace.ensures.gives
