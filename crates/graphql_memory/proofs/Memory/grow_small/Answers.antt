use Rattle.std.proofs.Common.{◌≡◌, ◌≤◌, ◌+◌, ◌-◌, ◌*◌, ◌∙◌, arith}
use Rattle.smallvec.specs.SmallVec.{small_vec_len}
use denote.Param.{param}
use Rattle.graphql_memory.specs.Memory.{bytes, small_places}
use Rattle.graphql_memory.proofs.Costs.{spilled, dear_small}
use Rattle.graphql_memory.proofs.Memory.grow_small.Goals as goal

pub returns-in_err-spend_for-clause-takes : goal.returns-in_err-spend_for-clause-takes
returns-in_err-spend_for-clause-takes g c =
    let R = param 0 g.row.T in
    let most = dear_small (bytes R) c.places_of.result c.in-Some.room (small_vec_len c.args.list.now) (omega arith) (omega arith) in
    let asked : c.args.self.now.left + c.spend_for.new.self.lacking ≤ c.spend_for.new.self.left + c.args.self.now.lacking + bytes R * (c.in-Some.room - c.places_of.result) = c.spend_for.ensures.takes.0 in
    rw (← c.places_of.ensures.places) (omega (arith, most, asked), omega arith)

pub returns-in-Ok-clause-places : goal.returns-in-Ok-clause-places
returns-in-Ok-clause-places g c =
    let more : c.reserve_exact.new.self.capacity ≡ c.in-Some.room = omega (arith, c.in-Ok.ensures.ok) in
    let room : small_places g.row.N c.reserve_exact.new.self ≡ c.in-Some.room = spilled g.row.N c.reserve_exact.new.self (omega (arith, more)) ∙ more in
    rw (room, ← c.places_of.ensures.places) (omega arith)

pub returns-in-Ok-clause-most : goal.returns-in-Ok-clause-most
returns-in-Ok-clause-most g c =
    let more : c.reserve_exact.new.self.capacity ≡ c.in-Some.room = omega (arith, c.in-Ok.ensures.ok) in
    let room : small_places g.row.N c.reserve_exact.new.self ≡ c.in-Some.room = spilled g.row.N c.reserve_exact.new.self (omega (arith, more)) ∙ more in
    rw (room) (omega arith)

pub returns-in-Ok-clause-takes : goal.returns-in-Ok-clause-takes
returns-in-Ok-clause-takes g c =
    let R = param 0 g.row.T in
    let most = dear_small (bytes R) c.places_of.result c.in-Some.room (small_vec_len c.args.list.now) (omega arith) (omega arith) in
    let asked : c.args.self.now.left + c.spend_for.new.self.lacking ≤ c.spend_for.new.self.left + c.args.self.now.lacking + bytes R * (c.in-Some.room - c.places_of.result) = c.spend_for.ensures.takes.0 in
    rw (← c.places_of.ensures.places) (omega (arith, most, asked), omega arith)

pub returns-in-Ok-clause-took : goal.returns-in-Ok-clause-took
returns-in-Ok-clause-took g c =
    let more : c.reserve_exact.new.self.capacity ≡ c.in-Some.room = omega (arith, c.in-Ok.ensures.ok) in
    let room : small_places g.row.N c.reserve_exact.new.self ≡ c.in-Some.room = spilled g.row.N c.reserve_exact.new.self (omega (arith, more)) ∙ more in
    rw (room, ← c.places_of.ensures.places) c.in_ok-spend_for.ensures.took

pub returns-in-Err-clause-takes : goal.returns-in-Err-clause-takes
returns-in-Err-clause-takes g c =
    let R = param 0 g.row.T in
    let most = dear_small (bytes R) c.places_of.result c.in-Some.room (small_vec_len c.args.list.now) (omega arith) (omega arith) in
    let asked : c.args.self.now.left + c.spend_for.new.self.lacking ≤ c.spend_for.new.self.left + c.args.self.now.lacking + bytes R * (c.in-Some.room - c.places_of.result) = c.spend_for.ensures.takes.0 in
    rw (← c.places_of.ensures.places) (omega (arith, most, asked), omega arith)
