use Rattle.std.proofs.Common.{◌+◌, sym, ap, ◌∙◌, arith}
use Rattle.graphql_tokens.proofs.Running.{count_bound, count_past}
use Rattle.graphql_tokens.proofs.pos.counted.CountedPlace.pass.Goals as goal

pub overflow_add-self : goal.overflow_add-self
overflow_add-self c =
    let k = c.requires.counting.running.reading in
    omega (arith, c.requires.counting.counted, count_bound c.args.self.now.place.walk k, k.boundary.0, k.bound)

pub returns-clause-counting : goal.returns-clause-counting
returns-clause-counting c =
    let e = c.pass.ensures in
    let v = c.requires.counting in
    record {
      running = e.running;
      counted = ap (λ n. n + 1) v.counted ∙ sym (count_past c.args.self.now.place.walk c.pass.new.self.walk c.pass.result v.running.reading e.same e.passes);
    }
