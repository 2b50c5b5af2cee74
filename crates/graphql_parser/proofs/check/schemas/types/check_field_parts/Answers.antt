use Rattle.std.proofs.Common.{false, Err}
use Rattle.std.proofs.lemmas.Result.{err_from_is_err_and}
use Rattle.graphql_grammar.specs.reading.Arguments.{directives_at}
use Rattle.graphql_reading.specs.grammar.Tests.{punct}
use Rattle.graphql_reading.specs.reading.Outcome.{then_at, opt_at}
use Rattle.graphql_schemas.specs.grammar.Types.{parts_of}
use Rattle.graphql_schemas.specs.reading.Fields.{fields_at}
use Rattle.graphql_schemas.proofs.FieldProductions.{takes-field_definition}
use Rattle.graphql_parser.proofs.Lines.{mapped-goes, then-stops, parts-go, field-parts-go}
use Rattle.graphql_parser.proofs.check.schemas.types.check_field_parts.Goals as goal

pub returns-in_err-check_const_directives-clause-checks : goal.returns-in_err-check_const_directives-clause-checks
returns-in_err-check_const_directives-clause-checks c =
    let p = err_from_is_err_and c.from_residual-in_err-check_const_directives.result c.from_residual-in_err-check_const_directives.ensures.1 in
    let mid = c.check_maybe_implements.new.parser in
    let new = c.check_const_directives.new.parser in
    let directives = directives_at false c.args.limits.values in
    let list = opt_at (punct "{") (fields_at c.args.limits) in
    rw (p.1, p.2) (field-parts-go {X = Unit {0}} (Err _) c.args.limits c.args.parser.now mid new c.in_ok-check_maybe_implements.ensures.checks
    (mapped-goes {X = Unit {0}} parts_of (Err _) mid new (then_at directives list)
    (then-stops _ mid new directives list c.in_err-check_const_directives.ensures.checks.0, c.in_err-check_const_directives.ensures.checks.1)))

pub returns-clause-checks : goal.returns-clause-checks
returns-clause-checks c =
    field-parts-go c.check_maybe_bracketed.result c.args.limits c.args.parser.now c.check_maybe_implements.new.parser c.check_maybe_bracketed.new.parser c.in_ok-check_maybe_implements.ensures.checks
    (parts-go c.check_maybe_bracketed.result c.args.limits (punct "{") c.check_maybe_implements.new.parser c.check_const_directives.new.parser c.check_maybe_bracketed.new.parser (fields_at c.args.limits) c.in_ok-check_const_directives.ensures.checks c.check_maybe_bracketed.ensures.checks)

pub check_maybe_bracketed-requires : goal.check_maybe_bracketed-requires
check_maybe_bracketed-requires c = takes-field_definition c.args.limits
