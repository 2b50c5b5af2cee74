use Rattle.std.proofs.Common.{◌≡◌, ◌≤◌, ◌++◌, drop, length}
use Rattle.std.specs.Prelude.{reverse}
use Rattle.graphql_report.proofs.productions.put.Given as goal

abbrev pub invariant-loop-next : goal.invariant-loop-next
invariant-loop-next l = record { few : l.next ≤ length l.phrases; items : l.left.items ≡ l.fn.left.items ++ reverse (drop l.next l.phrases) }

abbrev pub decreases-loop-next : goal.decreases-loop-next
decreases-loop-next l = l.next
