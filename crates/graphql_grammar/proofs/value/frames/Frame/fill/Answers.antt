use Rattle.std.proofs.Common.{◌≤◌, ◌+◌, arith, vec_len}
use Rattle.graphql_memory.specs.Memory.{price, credit}
use Rattle.graphql_syntax.specs.inner.Rows.{field_row, merging}
use Rattle.graphql_reading.proofs.Funds.{each-more}
use Rattle.graphql_grammar.specs.contracts.value.frames.Frame.fill.{V-row}
use Rattle.graphql_grammar.proofs.value.frames.Frame.fill.Goals as goal

pub returns-in_ok-push_with_room-in-Object-clause-pays : goal.returns-in_ok-push_with_room-in-Object-clause-pays
returns-in_ok-push_with_room-in-Object-clause-pays g c =
    let R = V-row g.row.V in
    let old = c.args.parser.now.memory in
    let new = c.push_with_room-in-Object.new.self.memory in
    let more = each-more (merging R) (vec_len c.in-Object.fields) (vec_len c.push_with_room-in-Object.new.list) c.in_ok-push_with_room-in-Object.ensures.len in
    let paid : old.left + new.lacking + credit (field_row R) c.push_with_room-in-Object.new.list ≤ new.left + old.lacking + credit (field_row R) c.in-Object.fields + price (field_row R) = c.in_ok-push_with_room-in-Object.ensures.pays in
    let fits : price (field_row R) + merging R ≤ 512 = g.met.V.Literal.field_fits in
    rw c.in-Object.is (omega (arith, more, paid, fits))
