use Rattle.graphql_parser.proofs.Calm.{calm, calm-on}
use Rattle.std.proofs.Common.{◌∙◌}
use Rattle.std.proofs.lemmas.Result.{err_from_is_err_and}
use Rattle.graphql_reading.specs.reading.Ahead.{tokens}
use Rattle.graphql_parser.specs.Levels.{opens}
use Rattle.graphql_parser.proofs.Levels.{step-room}
use Rattle.graphql_parser.proofs.Open.{kept-first, kept-stops, kept-closed, kept-passed, kept-entered}
use Rattle.graphql_parser.proofs.check.value.check_open.Goals as goal

pub loop-object-init : goal.loop-object-init
loop-object-init c = (
  rw c.new-levels.ensures.limit (kept-first c.args.vars c.args.limit c.args.parser.now c.args.first c.new-levels.result.objects.items c.requires.some c.new-levels.ensures.objects),
  calm c.args.parser.now,
)

pub returns-in_err-step_in-clause-checks : goal.returns-in_err-step_in-clause-checks
returns-in_err-step_in-clause-checks c =
    let p = err_from_is_err_and c.from_residual.result c.from_residual.ensures.1 in
    rw (p.1, p.2) (kept-stops c.loop-object.invariant.0 c.in-Some.object c.pop.new.self.objects.items c.in-Some.ensures.objects c.left.result (c.left.ensures ∙ c.pop.ensures.limit) c.step_in.new.parser _ c.in_err-step_in.ensures.gives.0 c.in_err-step_in.ensures.gives.1)

pub loop-object-preserved-in-Closed : goal.loop-object-preserved-in-Closed
loop-object-preserved-in-Closed c =
    let closed = rw c.in-Closed.is at c.in_ok-step_in.ensures.gives in (
      rw c.pop.ensures.limit (kept-closed c.loop-object.invariant.0 c.in-Some.object c.pop.new.self.objects.items c.in-Some.ensures.objects c.left.result (c.left.ensures ∙ c.pop.ensures.limit) c.step_in.new.parser closed.0 closed.1),
      calm-on c.args.parser.now c.loop-object.parser c.step_in.new.parser c.loop-object.invariant.1 c.step_in.ensures.calm,
    )

pub loop-object-preserved-in-Passed : goal.loop-object-preserved-in-Passed
loop-object-preserved-in-Passed c =
    let passed = rw c.in-Passed.is at c.in_ok-step_in.ensures.gives in (
      rw (c.push.ensures.limit, c.pop.ensures.limit) (kept-passed c.loop-object.invariant.0 c.in-Some.object c.pop.new.self.objects.items c.in-Some.ensures.objects c.left.result (c.left.ensures ∙ c.pop.ensures.limit) c.step_in.new.parser c.push.new.self.objects.items c.push.ensures.objects passed.0 passed.1),
      calm-on c.args.parser.now c.loop-object.parser c.step_in.new.parser c.loop-object.invariant.1 c.step_in.ensures.calm,
    )

pub loop-object-preserved : goal.loop-object-preserved
loop-object-preserved c =
    let found = rw c.in-Entered.is at c.in_ok-step_in.ensures.gives in
    let room = step-room c.args.vars c.left.result c.in-Some.object (tokens c.loop-object.parser) (opens c.in-Entered.inner) (tokens c.step_in.new.parser) found.0 in (
      rw (c.push-in-Entered-2.ensures.limit, c.push-in-Entered.ensures.limit, c.pop.ensures.limit) (kept-entered c.loop-object.invariant.0 c.in-Some.object c.pop.new.self.objects.items c.in-Some.ensures.objects c.left.result (c.left.ensures ∙ c.pop.ensures.limit) c.step_in.new.parser c.in-Entered.inner c.push-in-Entered.new.self.objects.items c.push-in-Entered-2.new.self.objects.items room c.push-in-Entered.ensures.objects c.push-in-Entered-2.ensures.objects found.0 found.1),
      calm-on c.args.parser.now c.loop-object.parser c.step_in.new.parser c.loop-object.invariant.1 c.step_in.ensures.calm,
    )
