use Rattle.std.proofs.Common.{drop, sym, ap, ◌∙◌, arith, length-drop}
use Rattle.std.proofs.lemmas.List.Sums.{prefix_len-le-length}
use lib.Count.{count_trailing_zeros}
use Rattle.graphql_tokens.proofs.Lanes.{run_goes_on, run_ends}
use Rattle.graphql_tokens.proofs.text.runs.past_run.Goals as goal

pub returns-then-outsiders-ne0-clause-value : goal.returns-then-outsiders-ne0-clause-value
returns-then-outsiders-ne0-clause-value g c =
    let mask = c.outsiders-outsiders.ensures in
    let end = run_ends g.C.ByteClass.has c.args.bytes.now c.loop-at.at 16 (omega arith) (omega arith) (omega (arith, mask)) ∙ ap (count_trailing_zeros 64) (sym mask) in
    omega (arith, end, c.loop-at.invariant.0)

pub returns-then-outsiders-ne0-clause-within : goal.returns-then-outsiders-ne0-clause-within
returns-then-outsiders-ne0-clause-within g c =
    let has = g.C.ByteClass.has in
    let bs = c.args.bytes.now in
    let i = c.loop-at.at in
    let mask = c.outsiders-outsiders.ensures in
    let end = run_ends has bs i 16 (omega arith) (omega arith) (omega (arith, mask)) ∙ ap (count_trailing_zeros 64) (sym mask) in
    omega (arith, end, prefix_len-le-length has (drop i bs), length-drop i bs)

pub loop-at-preserved : goal.loop-at-preserved
loop-at-preserved g c =
    let on = run_goes_on g.C.ByteClass.has c.args.bytes.now c.loop-at.at 16 (omega arith) (omega (arith, c.outsiders-outsiders.ensures)) in
    (omega (arith, on, c.loop-at.invariant.0), omega arith, omega (arith, c.loop-at.invariant.2))

pub returns-clause-within : goal.returns-clause-within
returns-clause-within g c =
    let has = g.C.ByteClass.has in
    omega (arith, c.past_last.ensures, c.loop-at.invariant.0, prefix_len-le-length has (drop c.loop-at.at c.args.bytes.now), length-drop c.loop-at.at c.args.bytes.now)

pub past_last-requires-clause-forward : goal.past_last-requires-clause-forward
past_last-requires-clause-forward g c = c.loop-at.invariant.2
