use Rattle.std.proofs.Common.{Option, option_map, sym, ap, ◌∙◌}
use Rattle.std.proofs.lemmas.Result.{err_from_is_err_and}
use Rattle.graphql_reading.proofs.Loops.{go-on}
use Rattle.graphql_reading.specs.reading.Ahead.{tokens}
use Rattle.graphql_reading.specs.reading.Outcome.{Read}
use Rattle.graphql_syntax.specs.trees.Parts.{Name}
use Rattle.graphql_tokens.specs.tokens.Seen.{seen}
use Rattle.graphql_parser.specs.RequestHeads.{operation_head}
use Rattle.graphql_parser.proofs.WordedHeads.{operation-is, operation-refuses}
use Rattle.graphql_parser.proofs.check.definitions.read_operation.Goals as goal

pub returns-in_err-check_body-clause-gives : goal.returns-in_err-check_body-clause-gives
returns-in_err-check_body-clause-gives c =
    let p = err_from_is_err_and c.from_residual-in_err-check_body.result c.from_residual-in_err-check_body.ensures.1 in
    let variables = c.in_ok-check_maybe_variable_definitions.ensures.checks in
    let now = c.check_maybe_variable_definitions.new.parser in
    let a = go-on c.args.parser.now c.read_operation_type.new.parser c.read_maybe_name.new.parser c.in_ok-word.ensures.gives.1 c.in_ok-name.ensures.gives.1 in
    let b = go-on c.args.parser.now c.read_maybe_name.new.parser now a variables.1 in
    rw (p.1, p.2) (
      operation-refuses c.args.limits _ _ c.in_err-check_body.field-0.0 c.args.parser.now now c.check_body.new.parser (seen c.in_ok-word.word, c.in_ok-word.field-0-1) (option_map seen c.in_ok-name.name) c.in_ok-word.ensures.gives.0 c.in_ok-name.ensures.gives.0 variables.0 c.in_err-check_body.ensures.checks.0,
      go-on c.args.parser.now now c.check_body.new.parser b c.in_err-check_body.ensures.checks.1,
    )

pub returns-clause-gives : goal.returns-clause-gives
returns-clause-gives c =
    let variables = c.in_ok-check_maybe_variable_definitions.ensures.checks in
    let now = c.check_maybe_variable_definitions.new.parser in
    let a = go-on c.args.parser.now c.read_operation_type.new.parser c.read_maybe_name.new.parser c.in_ok-word.ensures.gives.1 c.in_ok-name.ensures.gives.1 in
    let b = go-on c.args.parser.now c.read_maybe_name.new.parser now a variables.1 in (
      operation-is c.args.limits (tokens c.args.parser.now) _ _ _ _ (seen c.in_ok-word.word, c.in_ok-word.field-0-1) (option_map seen c.in_ok-name.name) c.in_ok-word.ensures.gives.0 c.in_ok-name.ensures.gives.0 variables.0 c.in_ok-check_body.ensures.checks.0
          ∙ ap (λ (name : Option Name). Read (operation_head name c.in_ok-word.word.pos) (tokens c.check_body.new.parser)) (sym c.text_of.ensures),
      go-on c.args.parser.now now c.check_body.new.parser b c.in_ok-check_body.ensures.checks.1,
    )
