use Rattle.std.proofs.Common.{length, ◌-◌, ◌≡◌}
use Rattle.graphql_editor.proofs.gaps.add_comments.Given as goal

abbrev pub invariant-loop-at : goal.invariant-loop-at
invariant-loop-at l = l.structure ≡ l.fn.structure

abbrev pub decreases-loop-at : goal.decreases-loop-at
decreases-loop-at l = length l.gap - l.at
