use Rattle.std.proofs.Common.{length, ◌-◌, ◌≡◌}
use Rattle.graphql_editor.proofs.pieces.read.Given as goal

abbrev pub invariant-loop-at : goal.invariant-loop-at
invariant-loop-at l = (l.walk.structure ≡ l.fn.walk.structure) × (l.walk.chain ≡ l.fn.walk.chain)

abbrev pub decreases-loop-at : goal.decreases-loop-at
decreases-loop-at l = length l.text - l.at
