use Rattle.std.proofs.Common.{sym, ◌∙◌}
use Rattle.std.specs.Str.{chars}
use Rattle.graphql_report.proofs.NumberParts.{digits-begun, digits-next, shorter-one}
use Rattle.graphql_report.proofs.faults.after_digits.Goals as goal

pub loop-c-init : goal.loop-c-init
loop-c-init c = (c.utf8.text, digits-begun (chars c.args.text.now))

pub loop-c-smaller : goal.loop-c-smaller
loop-c-smaller c = shorter-one c.loop-c.rest.now c.in-Some.after.now c.in-Some.c c.loop-c.invariant.0 c.in-Some.ensures.utf8 c.in-Some.ensures.cases

pub loop-c-preserved : goal.loop-c-preserved
loop-c-preserved c = (c.in-Some.ensures.utf8, digits-next (chars c.args.text.now) (chars c.loop-c.rest.now) (chars c.in-Some.after.now) c.in-Some.c c.loop-c.invariant.1 c.in-Some.ensures.cases (sym c.is_ascii_digit.ensures.value ∙ c.if-not-is_ascii_digit.false))
