use Rattle.std.proofs.Common.{◌≤◌, ◌+◌, ◌∙◌, sym, arith}
use Rattle.graphql_grammar.proofs.TypeSteps.{opens-goes, opens-ends, opens-stops}
use Rattle.graphql_grammar.proofs.types.open_lists.Goals as goal

pub returns-then-opened-limit-clause-gives : goal.returns-then-opened-limit-clause-gives
returns-then-opened-limit-clause-gives c = opens-stops c.args.limits.types c.loop-limit.opened c.args.parser.now c.loop-limit.parser c.loop-limit.invariant.0 (omega (arith, c.if-opened-limit.true, c.types-limit.ensures)) (sym c.is_at_punct.ensures ∙ c.loop-limit-test.true)

pub loop-limit-preserved : goal.loop-limit-preserved
loop-limit-preserved c =
    let within : c.loop-limit.opened + 1 ≤ c.args.limits.types = omega (arith, c.if-opened-limit.false, c.types-limit.ensures, c.loop-limit.invariant.1) in (
      opens-goes c.args.limits.types c.loop-limit.opened (c.loop-limit.opened + 1) c.args.parser.now c.loop-limit.parser c.advance.new.self c.loop-limit.invariant.0 within (omega arith) (sym c.is_at_punct.ensures ∙ c.loop-limit-test.true) c.advance.ensures.left (c.advance.ensures.source, omega (arith, c.advance.ensures.taken)),
      within,
      (omega arith, omega arith),
      c.advance.ensures.memory ∙ c.loop-limit.invariant.3,
    )

pub returns-clause-gives : goal.returns-clause-gives
returns-clause-gives c = opens-ends c.args.limits.types c.loop-limit.opened c.args.parser.now c.loop-limit.parser c.loop-limit.invariant.0 (sym c.is_at_punct.ensures ∙ c.loop-limit-test.false)
