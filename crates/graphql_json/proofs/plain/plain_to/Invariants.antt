use Rattle.std.proofs.Common.{◌-◌, ◌≤◌, length}
use Rattle.json.specs.Written.{PlainBetween}
use Rattle.graphql_json.proofs.plain.plain_to.Given as goal

abbrev pub invariant-loop-end : goal.invariant-loop-end
invariant-loop-end g l = (l.at ≤ l.end) × (l.end ≤ length l.text) × PlainBetween l.text l.at l.end

abbrev pub decreases-loop-end : goal.decreases-loop-end
decreases-loop-end g l = length l.text - l.end
