use Rattle.text_edits.proofs.Starts.{IsAt}
use Rattle.text_edits.proofs.lines.line_start.Given as goal

abbrev pub invariant-loop-passed : goal.invariant-loop-passed
invariant-loop-passed l = IsAt l.text l.start l.passed
