use Rattle.std.proofs.Common.{◌≡◌, ◌≤◌, ◌-◌}
use Rattle.graphql_tokens.specs.inner.Counting.{IsCounting}
use Rattle.graphql_tokens.proofs.pos.PositionCalculator.step.Given as goal

abbrev pub invariant-loop-self : goal.invariant-loop-self
invariant-loop-self l = record {
  counting : IsCounting l.self-inside.counted;
  same : l.self-inside.counted.place.walk.text.now ≡ l.fn.self.text;
  walk : l.self-inside.counted.number ≡ l.fn.self.walk;
  before : l.self-inside.counted.place.walk.offset ≤ l.offset;
}

abbrev pub decreases-loop-self : goal.decreases-loop-self
decreases-loop-self l = l.offset - l.self-inside.counted.place.walk.offset
