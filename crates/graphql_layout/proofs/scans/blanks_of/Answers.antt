use Rattle.std.proofs.Common.{sym, ap, ◌∙◌, arith}
use Rattle.std.proofs.lemmas.List.Sums.{prefix_len-le-length}
use lib.Count.{count_trailing_zeros}
use Rattle.graphql_tokens.proofs.Lanes.{run_ends}
use Rattle.graphql_layout.specs.inner.Standing.{is_blank_byte}
use Rattle.graphql_layout.proofs.scans.blanks_of.Goals as goal

pub returns-then-others-ne0-clause-value : goal.returns-then-others-ne0-clause-value
returns-then-others-ne0-clause-value c =
    let mask = c.others-others.ensures in
    sym (run_ends is_blank_byte c.args.bytes.now 0 64 (omega arith) (omega arith) (omega (arith, mask)) ∙ ap (count_trailing_zeros 64) (sym mask))

pub returns-then-others-ne0-clause-within : goal.returns-then-others-ne0-clause-within
returns-then-others-ne0-clause-within c =
    let mask = c.others-others.ensures in
    let end = run_ends is_blank_byte c.args.bytes.now 0 64 (omega arith) (omega arith) (omega (arith, mask)) ∙ ap (count_trailing_zeros 64) (sym mask) in
    omega (arith, end, prefix_len-le-length is_blank_byte c.args.bytes.now)
