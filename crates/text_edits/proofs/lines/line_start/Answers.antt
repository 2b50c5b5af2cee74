use Rattle.std.proofs.Common.{◌≡◌, ℕ, List, subst, arith}
use Rattle.text_edits.specs.Starts.{IsLastLine, IsNextLine, IsLineStart}
use Rattle.text_edits.proofs.Starts.{at_start, at_next, at_line, at_past}
use Rattle.text_edits.proofs.lines.line_start.Goals as goal

pub loop-passed-init : goal.loop-passed-init
loop-passed-init c = at_start c.args.text.now c.utf8.text

pub returns-in-None : goal.returns-in-None
returns-in-None c =
    at_past c.args.text.now c.loop-passed.start c.loop-passed.passed c.args.line c.utf8.text c.loop-passed.invariant (subst IsLastLine c.range_from.ensures.value c.in-None.ensures) (omega arith)

pub loop-passed-preserved : goal.loop-passed-preserved
loop-passed-preserved c =
    at_next c.args.text.now c.loop-passed.start c.loop-passed.passed c.in-Some.length c.utf8.text c.loop-passed.invariant
    (subst (λ (l : List ℕ). IsNextLine l c.in-Some.length) c.range_from.ensures.value c.in-Some.ensures)

pub returns : goal.returns
returns c =
    let same : c.loop-passed.passed ≡ c.args.line = omega arith in
    subst (λ (n : ℕ). IsLineStart c.args.text.now n c.loop-passed.start) same (at_line c.args.text.now c.loop-passed.start c.loop-passed.passed c.loop-passed.invariant)
