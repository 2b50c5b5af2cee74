use Rattle.std.proofs.Common.{length}
use Rattle.graphql_report.proofs.LeftTexts.{Walks}
use Rattle.graphql_report.proofs.left.left_after.Given as goal

abbrev pub invariant-loop-limits : goal.invariant-loop-limits
invariant-loop-limits l = Walks l.fn.language l.limits l.fn.front l.parser l.left.items

abbrev pub decreases-loop-limits : goal.decreases-loop-limits
decreases-loop-limits l = length l.parser.after
