use Rattle.std.proofs.Common.{◌≡◌, ◌-◌, length, take, drop, sym, ap, ◌∙◌, arith, length-drop}
use Rattle.std.specs.List.{prefix_len}
use Rattle.std.specs.Option.{unwrap_or}
use Rattle.std.proofs.lemmas.List.{take_all}
use Rattle.std.proofs.lemmas.List.Sums.{prefix_len-le-length}
use lib.Count.{count_trailing_zeros}
use Rattle.graphql_tokens.proofs.Lanes.{run_goes_on, run_ends}
use Rattle.graphql_tokens.specs.tokens.Place.{is_in_line}
use Rattle.graphql_layout.proofs.FirstLines.{found_end}
use Rattle.graphql_layout.proofs.scans.line_length.Goals as goal

pub returns-then-ends-ne0-clause-value : goal.returns-then-ends-ne0-clause-value
returns-then-ends-ne0-clause-value c =
    let mask = c.ends-ends.ensures in
    let end = run_ends is_in_line c.args.bytes.now c.chunks.at 64 (omega arith) (omega arith) (omega (arith, mask)) ∙ ap (count_trailing_zeros 64) (sym mask) in
    omega (arith, end, c.chunks.invariant.0)

pub returns-then-ends-ne0-clause-within : goal.returns-then-ends-ne0-clause-within
returns-then-ends-ne0-clause-within c =
    let mask = c.ends-ends.ensures in
    let end = run_ends is_in_line c.args.bytes.now c.chunks.at 64 (omega arith) (omega arith) (omega (arith, mask)) ∙ ap (count_trailing_zeros 64) (sym mask) in
    omega (arith, end, c.chunks.invariant.0, prefix_len-le-length is_in_line c.args.bytes.now)

pub chunks-preserved : goal.chunks-preserved
chunks-preserved c =
    let on = run_goes_on is_in_line c.args.bytes.now c.chunks.at 64 (omega arith) (omega (arith, c.ends-ends.ensures)) in
    (omega (arith, on, c.chunks.invariant.0), omega arith)

pub returns-clause-value : goal.returns-clause-value
returns-clause-value c =
    let last = drop c.chunks.at c.args.bytes.now in
    let n = length c.args.bytes.now - c.chunks.at in
    let all : take n last ≡ last = take_all n last (omega (arith, length-drop c.chunks.at c.args.bytes.now)) in
    let found : prefix_len is_in_line (take n last) ≡ unwrap_or c.memchr2.result (length (take n last)) = found_end (take n last) c.memchr2.result c.memchr2.ensures in
    let same : prefix_len is_in_line last ≡ prefix_len is_in_line (take n last) = ap (prefix_len is_in_line) (sym all) in
    omega (arith, found, same, c.unwrap_or.ensures, c.chunks.invariant.0)
