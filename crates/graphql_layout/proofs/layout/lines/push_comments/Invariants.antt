use Rattle.std.proofs.Common.{◌≡◌, ◌≤◌, ◌-◌, ◌++◌, length, drop}
use Rattle.std.specs.List.{AllByRecursion}
use Rattle.graphql_layout.specs.inner.Standing.{comments_in, IsCommentPassed}
use Rattle.graphql_layout.specs.inner.Tidied.{tidied}
use Rattle.graphql_layout.proofs.layout.lines.push_comments.Given as goal

abbrev pub invariant-loop-at : goal.invariant-loop-at
invariant-loop-at l = (l.sheet ++ tidied (comments_in (drop l.at l.passed)) ≡ l.fn.sheet ++ tidied (comments_in l.passed)) × AllByRecursion IsCommentPassed (drop l.at l.passed) × (l.at ≤ length l.passed)

abbrev pub decreases-loop-at : goal.decreases-loop-at
decreases-loop-at l = length l.passed - l.at
