use Rattle.std.proofs.Common.{◌+◌, arith, sym, ◌∙◌}
use lib.Count.{count_trailing_zeros}
use Rattle.graphql_json.proofs.Stops.{joined, plain_through, plain_to_stop}
use Rattle.graphql_json.proofs.plain.plain_run.Goals as goal

pub returns-then-stops-ne0-clause-plain : goal.returns-then-stops-ne0-clause-plain
returns-then-stops-ne0-clause-plain c k after before =
    let text = c.args.text.now in
    let end = c.loop-end.end in
    let stops = c.stops_at-stops in
    let run = plain_to_stop text end 16 (omega arith) (omega arith) stops.result stops.ensures c.if-stops-ne0.true in
    joined text c.args.at end end (end + count_trailing_zeros 64 stops.result) (omega arith) c.loop-end.invariant.2 run.1 k after (omega (arith, c.loop-end.invariant.0))

pub returns-then-stops-ne0-clause-within : goal.returns-then-stops-ne0-clause-within
returns-then-stops-ne0-clause-within c =
    let stops = c.stops_at-stops in
    let run = plain_to_stop c.args.text.now c.loop-end.end 16 (omega arith) (omega arith) stops.result stops.ensures c.if-stops-ne0.true in
    omega (arith, run.0, c.loop-end.invariant.0)

pub loop-end-preserved : goal.loop-end-preserved
loop-end-preserved c =
    let text = c.args.text.now in
    let end = c.loop-end.end in
    let stops = c.stops_at-stops in
    let run = plain_through text end 16 (omega arith) (sym stops.ensures ∙ c.if-stops-ne0.false) in
    (omega (arith, c.loop-end.invariant.0), omega arith, joined text c.args.at end end (end + 16) (omega arith) c.loop-end.invariant.2 run)
