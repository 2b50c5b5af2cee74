use Rattle.std.proofs.Common.{refl, ◌∙◌}
use Rattle.std.specs.Str.{chars}
use Rattle.graphql_report.proofs.NumberParts.{after-dot, shorter-one}
use Rattle.graphql_report.proofs.faults.digit_after_dots.Goals as goal

pub loop-c-init : goal.loop-c-init
loop-c-init c = (c.utf8.text, refl)

pub loop-c-smaller : goal.loop-c-smaller
loop-c-smaller c = shorter-one c.loop-c.rest.now c.in-Some.after.now c.in-Some.c c.loop-c.invariant.0 c.in-Some.ensures.utf8 c.in-Some.ensures.cases

pub loop-c-preserved : goal.loop-c-preserved
loop-c-preserved c = (c.in-Some.ensures.utf8, c.loop-c.invariant.1 ∙ after-dot (chars c.loop-c.rest.now) (chars c.in-Some.after.now) c.in-Some.c c.in-Some.ensures.cases c.if-c-ne46.false)
