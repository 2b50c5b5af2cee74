use Rattle.std.proofs.Common.{ℕ, List, subst}
use Rattle.text_edits.specs.Starts.{IsNextLine}
use Rattle.text_edits.proofs.Passed.{walked_start, walked_next, walked_here}
use Rattle.text_edits.proofs.Starts.{at_line}
use Rattle.text_edits.proofs.positions.line_of.Goals as goal

pub loop-length-init : goal.loop-length-init
loop-length-init c = walked_start c.args.text.now c.args.offset c.utf8.text

pub returns-then-offset-start-clause-start : goal.returns-then-offset-start-clause-start
returns-then-offset-start-clause-start c = at_line c.args.text.now c.loop-length.start c.loop-length.number c.loop-length.invariant.at

pub returns-then-offset-start-clause-on : goal.returns-then-offset-start-clause-on
returns-then-offset-start-clause-on c =
    walked_here c.args.text.now c.loop-length.start c.loop-length.number c.args.offset c.in-Some.length c.utf8.text c.loop-length.invariant
    (subst (λ (l : List ℕ). IsNextLine l c.in-Some.length) c.range_from.ensures.value c.in-Some.ensures) c.if-offset-start.true

pub loop-length-preserved : goal.loop-length-preserved
loop-length-preserved c =
    walked_next c.args.text.now c.loop-length.start c.loop-length.number c.args.offset c.in-Some.length c.utf8.text c.loop-length.invariant
    (subst (λ (l : List ℕ). IsNextLine l c.in-Some.length) c.range_from.ensures.value c.in-Some.ensures) c.if-offset-start.false
