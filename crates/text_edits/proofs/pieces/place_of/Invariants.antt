use Rattle.std.proofs.Common.{◌≡◌, ◌≤◌, take}
use Rattle.std.specs.List.{sum_by}
use Rattle.text_edits.specs.Pieces.{lines_ended}
use Rattle.text_edits.proofs.pieces.place_of.Given as goal

abbrev pub invariant-loop-index : goal.invariant-loop-index
invariant-loop-index l = (l.passed ≡ sum_by lines_ended (take l.index l.front)) × (l.passed ≤ l.line)
