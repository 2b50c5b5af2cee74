use Rattle.std.proofs.Common.{◌<◌, length, ap, arith}
use Rattle.graphql_tokens.proofs.FirstBytes.{ahead_some}
use Rattle.graphql_tokens.proofs.pos.PositionCalculator.step.Goals as goal

pub pass-requires-clause-more : goal.pass-requires-clause-more
pass-requires-clause-more c =
    let v = c.loop-self.invariant in
    let a = c.loop-self.self-inside.counted.place in
    let l : a.walk.offset < length a.walk.text.now = omega (arith, ap length v.same, c.requires.boundary.0) in
    ahead_some a v.counting.running l
