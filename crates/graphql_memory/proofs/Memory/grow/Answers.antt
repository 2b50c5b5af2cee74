use Rattle.std.proofs.Common.{arith, vec_len, vec_capacity}
use Rattle.graphql_memory.specs.Memory.{bytes}
use Rattle.graphql_memory.specs.contracts.Memory.grow.{T-row}
use Rattle.graphql_memory.proofs.Costs.{dear}
use Rattle.graphql_memory.proofs.Memory.grow.Goals as goal

pub returns-in_err-spend_for-clause-takes : goal.returns-in_err-spend_for-clause-takes
returns-in_err-spend_for-clause-takes g c =
    let most = dear (bytes (T-row g.row.T)) (vec_capacity c.args.list.now) c.growth_of-growth.result (vec_len c.args.list.now) c.requires.full (omega arith) in
    (omega (arith, most), omega arith)

pub returns-clause-takes : goal.returns-clause-takes
returns-clause-takes g c =
    let most = dear (bytes (T-row g.row.T)) (vec_capacity c.args.list.now) c.growth_of-growth.result (vec_len c.args.list.now) c.requires.full (omega arith) in
    (omega (arith, most), omega arith)
