use denote.Shadow.{shadow}
use denote.Text.{Utf8}
use Rattle.std.proofs.Common.{◌≡◌, ◌++◌, All, length}
use Rattle.std.specs.List.{concat}
use Rattle.text_edits.specs.Pieces.{IsPiece}
use Rattle.text_edits.proofs.pieces.cut.Given as goal

abbrev pub invariant-loop-end : goal.invariant-loop-end
invariant-loop-end l = shadow (Utf8 l.rest) × (All IsPiece l.front.items × (concat l.front.items ++ l.rest ≡ concat l.fn.front.items ++ l.text))

abbrev pub decreases-loop-end : goal.decreases-loop-end
decreases-loop-end l = length l.rest
