use Rattle.std.proofs.Common.{◌-◌, length}
use Rattle.text_edits.proofs.Passed.{Walked}
use Rattle.text_edits.proofs.positions.line_of.Given as goal

abbrev pub decreases-loop-length : goal.decreases-loop-length
decreases-loop-length l = length l.initial.text - l.start

abbrev pub invariant-loop-length : goal.invariant-loop-length
invariant-loop-length l = Walked l.text l.start l.number l.offset
