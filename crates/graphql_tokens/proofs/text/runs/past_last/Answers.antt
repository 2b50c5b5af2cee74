use Rattle.std.proofs.Common.{◌≡◌, ℕ, Bool, List, ◌+◌, ◌≤◌, ◌<◌, ◌-◌, drop, length, sym, ap, ◌∙◌, arith}
use Rattle.std.proofs.lemmas.List.Sums.{prefix_len-drop_all}
use Rattle.std.specs.List.{prefix_len}
use Rattle.graphql_tokens.proofs.Lanes.{run_goes_on, run_ends, run_within}
use lib.Count.{count_trailing_zeros}
use Rattle.graphql_tokens.proofs.text.runs.past_last.Goals as goal

-- the run ends where it ends from the last sixteen bytes on
again : (has : ℕ → Bool) (bs : List ℕ) (start from : ℕ) → start ≤ from → from ≤ length bs → length bs < from + 16 → 16 ≤ from - start
    → start + prefix_len has (drop start bs) ≡ from + prefix_len has (drop from bs)
    → length bs - 16 + prefix_len has (drop (length bs - 16) bs) ≡ start + prefix_len has (drop start bs)
again has bs start from f w few long e =
    let n = length bs - 16 - start in
    let is : start + n ≡ length bs - 16 = omega arith in
    rw (← is) (run_within has bs n start from (omega arith) w e)

pub returns-then-outsiders-eq0 : goal.returns-then-outsiders-eq0
returns-then-outsiders-eq0 g c =
    let has = g.C.ByteClass.has in
    let bs = c.args.bytes.now in
    let r = c.requires in
    let on = run_goes_on has bs (length bs - 16) 16 (omega arith) (omega (arith, c.outsiders-outsiders.ensures, c.if-outsiders-eq0.true)) in
    let none = prefix_len-drop_all has bs (length bs - 16 + 16) (omega arith) in
    omega (arith, again has bs c.args.start c.args.from r.forward r.within r.few (omega arith) r.run, on, none)

pub returns-then-from-start-ge-LANES : goal.returns-then-from-start-ge-LANES
returns-then-from-start-ge-LANES g c =
    let has = g.C.ByteClass.has in
    let bs = c.args.bytes.now in
    let r = c.requires in
    let mask = c.outsiders-outsiders.ensures in
    let end = run_ends has bs (length bs - 16) 16 (omega arith) (omega arith) (omega (arith, mask)) ∙ ap (count_trailing_zeros 64) (sym mask) in
    omega (arith, again has bs c.args.start c.args.from r.forward r.within r.few (omega arith) r.run, end)
