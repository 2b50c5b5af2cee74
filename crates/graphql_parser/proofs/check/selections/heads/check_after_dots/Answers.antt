use Rattle.std.proofs.Common.{true, sym, ap, ◌∙◌, arith}
use Rattle.std.proofs.lemmas.Result.{err_from_is_err_and}
use Rattle.graphql_reading.specs.grammar.Places.{nowhere}
use Rattle.graphql_reading.specs.reading.Ahead.{tokens}
use Rattle.graphql_grammar.specs.reading.Arguments.{directives_at}
use Rattle.graphql_requests.specs.reading.SelectionSteps.{after_dots_at}
use Rattle.graphql_reading.proofs.Loops.{go-on}
use Rattle.graphql_parser.specs.Checked.{rest_of}
use Rattle.graphql_parser.specs.Heads.{entered_at}
use Rattle.graphql_parser.proofs.Heads.{spread-is, spread-not}
use Rattle.graphql_parser.proofs.Parts.{stops-as}
use Rattle.graphql_parser.proofs.check.selections.heads.check_after_dots.Goals as goal

pub returns-in_err-check_directives-clause-gives : goal.returns-in_err-check_directives-clause-gives
returns-in_err-check_directives-clause-gives c =
    let p = err_from_is_err_and c.from_residual.result c.from_residual.ensures.1 in
    let old = c.args.parser.now in
    let new = c.check_directives.new.parser in
    rw (p.1, p.2) (stops-as _ old c.advance.new.self new (entered_at (after_dots_at c.args.limits.values c.args.nests nowhere)) (directives_at true c.args.limits.values)
    (λ v k. spread-not c.args.limits.values c.args.nests old.hand old.after (sym c.is_at_fragment_name.ensures ∙ c.if-is_at_fragment_name.true) (tokens new) v (ap (directives_at true c.args.limits.values) (sym c.advance.ensures.left) ∙ k))
    (c.advance.ensures.source, omega (arith, c.advance.ensures.taken)) c.in_err-check_directives.ensures.checks.0 c.in_err-check_directives.ensures.checks.1)

pub returns-then-is_at_fragment_name-clause-gives : goal.returns-then-is_at_fragment_name-clause-gives
returns-then-is_at_fragment_name-clause-gives c =
    let old = c.args.parser.now in
    let new = c.check_directives.new.parser in (
      spread-is c.args.limits.values c.args.nests old.hand old.after (sym c.is_at_fragment_name.ensures ∙ c.if-is_at_fragment_name.true) (tokens new) (ap (λ ts. rest_of (directives_at true c.args.limits.values ts)) (sym c.advance.ensures.left) ∙ c.in_ok-check_directives.ensures.checks.0),
      go-on old c.advance.new.self new (c.advance.ensures.source, omega (arith, c.advance.ensures.taken)) c.in_ok-check_directives.ensures.checks.1,
    )
