use Rattle.std.proofs.lemmas.Result.{err_from_is_err_and}
use Rattle.graphql_reading.proofs.Loops.{go-on}
use Rattle.graphql_reading.specs.reading.Ahead.{tokens}
use Rattle.graphql_tokens.specs.tokens.Seen.{seen}
use Rattle.graphql_parser.proofs.WordedHeads.{fragment-is, fragment-refuses}
use Rattle.graphql_parser.proofs.check.definitions.read_fragment.Goals as goal

pub returns-in_err-check_body-clause-gives : goal.returns-in_err-check_body-clause-gives
returns-in_err-check_body-clause-gives c =
    let p = err_from_is_err_and c.from_residual-in_err-check_body.result c.from_residual-in_err-check_body.ensures.1 in
    let a = go-on c.args.parser.now c.expect_keyword.new.self c.expect_fragment_name.new.parser c.in_ok-word.ensures.gives.1 c.in_ok-name.ensures.gives.1 in
    let b = go-on c.args.parser.now c.expect_fragment_name.new.parser c.check_type_condition.new.parser a c.in_ok-check_type_condition.ensures.checks.1 in
    rw (p.1, p.2) (
      fragment-refuses c.args.limits _ _ c.in_err-check_body.field-0.0 c.args.parser.now c.check_type_condition.new.parser c.check_body.new.parser (seen c.in_ok-word.word) (seen c.in_ok-name.name) c.in_ok-word.ensures.gives.0 c.in_ok-name.ensures.gives.0 c.in_ok-check_type_condition.ensures.checks.0 c.in_err-check_body.ensures.checks.0,
      go-on c.args.parser.now c.check_type_condition.new.parser c.check_body.new.parser b c.in_err-check_body.ensures.checks.1,
    )

pub returns-clause-gives : goal.returns-clause-gives
returns-clause-gives c =
    let a = go-on c.args.parser.now c.expect_keyword.new.self c.expect_fragment_name.new.parser c.in_ok-word.ensures.gives.1 c.in_ok-name.ensures.gives.1 in
    let b = go-on c.args.parser.now c.expect_fragment_name.new.parser c.check_type_condition.new.parser a c.in_ok-check_type_condition.ensures.checks.1 in (
      fragment-is c.args.limits (tokens c.args.parser.now) _ _ _ _ (seen c.in_ok-word.word) (seen c.in_ok-name.name) c.in_ok-word.ensures.gives.0 c.in_ok-name.ensures.gives.0 c.in_ok-check_type_condition.ensures.checks.0 c.in_ok-check_body.ensures.checks.0,
      go-on c.args.parser.now c.check_type_condition.new.parser c.check_body.new.parser b c.in_ok-check_body.ensures.checks.1,
    )
