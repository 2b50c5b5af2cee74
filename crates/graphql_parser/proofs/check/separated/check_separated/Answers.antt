use Rattle.graphql_parser.proofs.Calm.{calm-on}
use Rattle.std.proofs.lemmas.Result.{err_from_is_err_and}
use Rattle.graphql_reading.specs.reading.Spelled.{punct_of}
use Rattle.graphql_parser.proofs.SeparatedLoop.{begins-some, stops-some, goes-some, ends-some, shorter-some}
use Rattle.graphql_parser.proofs.check.separated.check_separated.Goals as goal

pub loop-parser-init : goal.loop-parser-init
loop-parser-init g c = (
  begins-some (punct_of c.args.mark.now) (g.P.Phrase.reader c.args.limits) c.args.parser.now c.take_punct.new.self c.take_punct.result c.take_punct.ensures.gives,
  (c.take_punct.ensures.memory, c.take_punct.ensures.saves),
)

pub returns-in_err-check-clause-checks : goal.returns-in_err-check-clause-checks
returns-in_err-check-clause-checks g c =
    let p = err_from_is_err_and c.from_residual.result c.from_residual.ensures.1 in
    rw (p.1, p.2) (stops-some (punct_of c.args.mark.now) (g.P.Phrase.reader c.args.limits) c.loop-parser.invariant.0 c.check.new.parser _ c.in_err-check.ensures.checks.0 c.in_err-check.ensures.checks.1)

pub returns-then-not-take_punct-clause-checks : goal.returns-then-not-take_punct-clause-checks
returns-then-not-take_punct-clause-checks g c = ends-some (punct_of c.args.mark.now) (g.P.Phrase.reader c.args.limits) c.loop-parser.invariant.0 c.check.new.parser c.take_punct-in-loop-parser.new.self c.take_punct-in-loop-parser.result c.in_ok-check.ensures.checks.0 c.in_ok-check.ensures.checks.1 c.take_punct-in-loop-parser.ensures.gives c.if-not-take_punct.true

pub loop-parser-smaller : goal.loop-parser-smaller
loop-parser-smaller g c = shorter-some (punct_of c.args.mark.now) (g.P.Phrase.reader c.args.limits) c.loop-parser.invariant.0 c.check.new.parser c.take_punct-in-loop-parser.new.self c.take_punct-in-loop-parser.result c.in_ok-check.ensures.checks.0 c.in_ok-check.ensures.checks.1 c.take_punct-in-loop-parser.ensures.gives c.requires c.if-not-take_punct.false

pub loop-parser-preserved : goal.loop-parser-preserved
loop-parser-preserved g c = (
  goes-some (punct_of c.args.mark.now) (g.P.Phrase.reader c.args.limits) c.loop-parser.invariant.0 c.check.new.parser c.take_punct-in-loop-parser.new.self c.take_punct-in-loop-parser.result c.in_ok-check.ensures.checks.0 c.in_ok-check.ensures.checks.1 c.take_punct-in-loop-parser.ensures.gives c.requires c.if-not-take_punct.false,
  calm-on c.args.parser.now c.check.new.parser c.take_punct-in-loop-parser.new.self (calm-on c.args.parser.now c.loop-parser.parser c.check.new.parser c.loop-parser.invariant.1 c.check.ensures.calm) (c.take_punct-in-loop-parser.ensures.memory, c.take_punct-in-loop-parser.ensures.saves),
)
