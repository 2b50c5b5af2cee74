use Rattle.text_edits.proofs.Patches.{Shifting}
use Rattle.text_edits.proofs.parts.shift.Given as goal

abbrev pub invariant-loop-at : goal.invariant-loop-at
invariant-loop-at l = Shifting l.first l.from l.to l.at l.initial.starts l.starts
