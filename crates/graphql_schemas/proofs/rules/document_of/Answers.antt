use Rattle.std.proofs.Common.{◌∷◌, [], ◌∙◌, ap, arith, length, length-append}
use Rattle.graphql_schemas.proofs.Finished.{unbroken-one-more, finished-one-more}
use Rattle.graphql_schemas.proofs.OnePassed.{one-passed}
use Rattle.graphql_schemas.proofs.rules.document_of.Goals as goal

pub loop-definition-preserved : goal.loop-definition-preserved
loop-definition-preserved c =
    let all = ap length c.loop-definition.invariant.2 ∙ length-append c.loop-definition.yielded _ in
    let rest = ap length c.in-Some.ensures.steps.0 in
    let room = c.push.ensures.room (omega (arith, all, rest, c.loop-definition.invariant.5, c.loop-definition.invariant.6, c.args.definitions.ok)) in (
      tt,
      tt,
      one-passed c.loop-definition.yielded c.loop-definition.invariant.2 c.in-Some.ensures.steps.0,
      unbroken-one-more c.loop-definition.yielded c.in-Some.definition c.loop-definition.invariant.3 c.in_ok-finish.ensures.finished.0,
      finished-one-more c.loop-definition.yielded c.in-Some.definition _ _ _ c.loop-definition.invariant.4 c.in_ok-push.ensures.items c.in_ok-finish.ensures.finished.1,
      omega (arith, c.in_ok-push.ensures.len, c.loop-definition.invariant.5, length-append c.loop-definition.yielded (c.in-Some.definition ∷ [])),
      room.1 ∙ c.loop-definition.invariant.6,
      rw room.0 c.loop-definition.invariant.7,
    )
