use Rattle.std.proofs.Common.{arith, vec_capacity}
use Rattle.graphql_memory.proofs.Costs.{grown}
use Rattle.graphql_memory.proofs.Memory.push_with_room.Goals as goal
use Rattle.graphql_memory.proofs.Memory.push_with_room.Goals.{then-len-capacity+in_ok-grow, else-len-capacity}

pub returns-clause-pays : goal.returns-clause-pays
returns-clause-pays g c =
    rw (c.push_reserved.ensures.len, c.push_reserved.ensures.capacity) (elim c.if-len-capacity.branch [
      | then-len-capacity+in_ok-grow w ↦
          let more = grown _ _ _ (vec_capacity c.args.list.now) (vec_capacity w.grow.new.list) _ (omega arith) w.in_ok-grow.ensures.took.0 (rw w.grow.ensures.len at w.grow.ensures.most) in
          rw (w.self-is, w.list-is, w.grow.ensures.len) (omega (arith, more, w.in_ok-grow.ensures.took))
      | else-len-capacity w ↦ rw (w.self-is, w.list-is) (omega arith)
    ])
