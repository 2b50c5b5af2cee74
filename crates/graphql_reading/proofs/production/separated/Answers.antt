use Rattle.std.proofs.Common.{◌≡◌, ◌+◌, ◌-◌, arith, ap, length, vec_len}
use Rattle.std.proofs.lemmas.Result.{err_from_is_err_and}
use Rattle.graphql_memory.specs.Memory.{price}
use Rattle.graphql_reading.proofs.Funds.{each-more, each-none}
use Rattle.graphql_reading.specs.reading.Given.{trees_in}
use Rattle.graphql_reading.specs.reading.Spelled.{punct_of}
use Rattle.graphql_reading.proofs.Loops.{given-stays}
use Rattle.graphql_reading.proofs.SeparatedLoop.{begins-members, stops-members, goes-members, ends-members, shorter-members}
use Rattle.graphql_reading.proofs.production.separated.Goals as goal

pub loop-nodes-init : goal.loop-nodes-init
loop-nodes-init g c =
    let none : vec_len c.empty_list-nodes.result ≡ 0 = omega (arith, ap length c.empty_list-nodes.ensures.items, c.empty_list-nodes.result.ok) in (
      rw c.empty_list-nodes.ensures.items (begins-members (punct_of c.args.mark.now) (g.P.Production.reader c.args.limits) c.args.parser.now c.take_punct.new.self c.take_punct.result c.take_punct.ensures.gives),
      (omega (arith, each-none (g.P.Production.spare - price g.row.P-Node) _ none), omega arith),
    )

pub returns-in_err-node-clause-gives : goal.returns-in_err-node-clause-gives
returns-in_err-node-clause-gives g c =
    let p = err_from_is_err_and c.from_residual.result c.from_residual.ensures.1 in
    rw (p.1, p.2) (stops-members g.P.Production.tree (trees_in g.P.Production.tree) (punct_of c.args.mark.now) (g.P.Production.reader c.args.limits) c.args.parser.now c.loop-nodes.parser c.read.new.parser _ _ c.loop-nodes.invariant.0 c.in_err-node.ensures.gives)

pub returns-then-not-take_punct-clause-gives : goal.returns-then-not-take_punct-clause-gives
returns-then-not-take_punct-clause-gives g c = ends-members g.P.Production.tree (punct_of c.args.mark.now) (g.P.Production.reader c.args.limits) c.args.parser.now c.loop-nodes.parser c.push_with_room.new.self c.take_punct-in-loop-nodes.new.self _ _ _ c.take_punct-in-loop-nodes.result c.loop-nodes.invariant.0 (given-stays g.P.Production.tree _ c.loop-nodes.parser c.read.new.parser c.push_with_room.new.self (g.P.Production.reader c.args.limits) c.in_ok-node.ensures.gives c.push_with_room.ensures.stays) c.take_punct-in-loop-nodes.ensures.gives c.if-not-take_punct.true c.in_ok-push_with_room.ensures.items

pub loop-nodes-smaller : goal.loop-nodes-smaller
loop-nodes-smaller g c = shorter-members g.P.Production.tree (punct_of c.args.mark.now) (g.P.Production.reader c.args.limits) c.loop-nodes.parser c.push_with_room.new.self c.take_punct-in-loop-nodes.new.self _ c.take_punct-in-loop-nodes.result c.requires.takes (given-stays g.P.Production.tree _ c.loop-nodes.parser c.read.new.parser c.push_with_room.new.self (g.P.Production.reader c.args.limits) c.in_ok-node.ensures.gives c.push_with_room.ensures.stays) c.take_punct-in-loop-nodes.ensures.gives c.if-not-take_punct.false

pub loop-nodes-preserved : goal.loop-nodes-preserved
loop-nodes-preserved g c =
    let longer : vec_len c.push_with_room.new.list ≡ vec_len c.loop-nodes.nodes + 1 = omega (arith, c.in_ok-push_with_room.ensures.len) in
    let more = each-more (g.P.Production.spare - price g.row.P-Node) _ _ longer in (
      goes-members g.P.Production.tree (punct_of c.args.mark.now) (g.P.Production.reader c.args.limits) c.args.parser.now c.loop-nodes.parser c.push_with_room.new.self c.take_punct-in-loop-nodes.new.self _ _ _ c.take_punct-in-loop-nodes.result c.requires.takes c.loop-nodes.invariant.0 (given-stays g.P.Production.tree _ c.loop-nodes.parser c.read.new.parser c.push_with_room.new.self (g.P.Production.reader c.args.limits) c.in_ok-node.ensures.gives c.push_with_room.ensures.stays) c.take_punct-in-loop-nodes.ensures.gives c.if-not-take_punct.false c.in_ok-push_with_room.ensures.items,
      (omega (arith, more, c.in_ok-node.ensures.pays, c.in_ok-push_with_room.ensures.pays), omega (arith, c.in_ok-node.ensures.pays)),
    )

pub returns-then-not-take_punct-clause-pays : goal.returns-then-not-take_punct-clause-pays
returns-then-not-take_punct-clause-pays g c =
    let longer : vec_len c.push_with_room.new.list ≡ vec_len c.loop-nodes.nodes + 1 = omega (arith, c.in_ok-push_with_room.ensures.len) in
    let more = each-more (g.P.Production.spare - price g.row.P-Node) _ _ longer in
    (omega (arith, more, c.in_ok-node.ensures.pays, c.in_ok-push_with_room.ensures.pays), omega (arith, c.in_ok-node.ensures.pays))
