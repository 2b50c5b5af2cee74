use Rattle.std.proofs.Common.{◌-◌, length}
use Rattle.text_edits.proofs.Within.{Pushing}
use Rattle.text_edits.proofs.parts.push_starts.Given as goal

abbrev pub decreases-loop-found : goal.decreases-loop-found
decreases-loop-found l = length l.part - l.at

abbrev pub invariant-loop-found : goal.invariant-loop-found
invariant-loop-found l = Pushing l.start l.at l.part l.rest l.initial.starts.items l.starts.items
