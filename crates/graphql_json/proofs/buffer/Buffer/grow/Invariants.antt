use Rattle.std.proofs.Common.{◌≡◌, ◌-◌}
use Rattle.graphql_json.proofs.buffer.Buffer.grow.Given as goal

abbrev pub invariant-loop-self : goal.invariant-loop-self
invariant-loop-self l = l.self.items ≡ l.fn.self.items

abbrev pub decreases-loop-self : goal.decreases-loop-self
decreases-loop-self l = l.more - l.self.ready
