use Rattle.std.proofs.Common.{◌≡◌, ◌+◌, ◌-◌, ◌∷◌, [], ◌∙◌, ap, arith, refl, length, length-append}
use Rattle.smallvec.specs.SmallVec.{small_vec_len}
use Rattle.graphql_memory.specs.Memory.{small_places}
use Rattle.graphql_memory.proofs.Costs.{grown, same_places}
use Rattle.graphql_memory.proofs.Memory.push_small.Goals as goal
use Rattle.graphql_memory.proofs.Memory.push_small.Goals.{then-len-capacity+in_ok-grow_small, else-len-capacity}

pub returns-clause-pays : goal.returns-clause-pays
returns-clause-pays g c =
    let more : small_vec_len c.push_reserved.new.self ≡ small_vec_len c.if-len-capacity.list + 1 = ap length c.push_reserved.ensures.items ∙ length-append c.if-len-capacity.list.items (c.args.item ∷ []) in
    rw (more, same_places g.row.N c.if-len-capacity.list c.push_reserved.new.self c.push_reserved.ensures.capacity) (elim c.if-len-capacity.branch [
      | then-len-capacity+in_ok-grow_small w ↦
          let len : small_vec_len w.grow_small.new.list ≡ small_vec_len c.args.list.now = ap length w.grow_small.ensures.items in
          let paid = grown _ _ _ (small_places g.row.N c.args.list.now) (small_places g.row.N w.grow_small.new.list) _ w.in_ok-grow_small.ensures.places w.in_ok-grow_small.ensures.took.0 w.in_ok-grow_small.ensures.most in
          rw (w.self-is, w.list-is, len) (omega (arith, paid, w.in_ok-grow_small.ensures.took))
      | else-len-capacity w ↦ rw (w.self-is, w.list-is) (omega arith)
    ])

pub returns-clause-took : goal.returns-clause-took
returns-clause-took g c =
    rw (same_places g.row.N c.if-len-capacity.list c.push_reserved.new.self c.push_reserved.ensures.capacity) (elim c.if-len-capacity.branch [
      | then-len-capacity+in_ok-grow_small w ↦ rw (w.self-is, w.list-is) w.in_ok-grow_small.ensures.took
      | else-len-capacity w ↦
          let none : small_places g.row.N c.args.list.now - small_places g.row.N c.args.list.now ≡ 0 = omega arith in
          rw (w.self-is, w.list-is, none) (omega arith, refl, refl)
    ])
