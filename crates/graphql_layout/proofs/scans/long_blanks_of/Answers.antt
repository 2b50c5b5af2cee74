use Rattle.std.proofs.Common.{sym, ap, ◌∙◌, arith}
use Rattle.std.proofs.lemmas.List.Sums.{prefix_len-le-length}
use lib.Count.{count_trailing_zeros}
use Rattle.graphql_tokens.proofs.Lanes.{run_goes_on, run_ends}
use Rattle.graphql_layout.specs.inner.Standing.{is_blank_byte}
use Rattle.graphql_layout.proofs.scans.long_blanks_of.Goals as goal

pub returns-then-others-ne0-clause-value : goal.returns-then-others-ne0-clause-value
returns-then-others-ne0-clause-value c =
    let mask = c.others-others.ensures in
    let end = run_ends is_blank_byte c.args.bytes.now c.chunks.at 64 (omega arith) (omega arith) (omega (arith, mask)) ∙ ap (count_trailing_zeros 64) (sym mask) in
    omega (arith, end, c.chunks.invariant.0)

pub returns-then-others-ne0-clause-within : goal.returns-then-others-ne0-clause-within
returns-then-others-ne0-clause-within c =
    let mask = c.others-others.ensures in
    let end = run_ends is_blank_byte c.args.bytes.now c.chunks.at 64 (omega arith) (omega arith) (omega (arith, mask)) ∙ ap (count_trailing_zeros 64) (sym mask) in
    omega (arith, end, c.chunks.invariant.0, prefix_len-le-length is_blank_byte c.args.bytes.now)

pub chunks-preserved : goal.chunks-preserved
chunks-preserved c =
    let on = run_goes_on is_blank_byte c.args.bytes.now c.chunks.at 64 (omega arith) (omega (arith, c.others-others.ensures)) in
    (omega (arith, on, c.chunks.invariant.0), omega arith)
