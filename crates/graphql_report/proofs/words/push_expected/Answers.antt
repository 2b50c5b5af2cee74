use Rattle.std.proofs.Common.{ℕ, Bool, List, ◌++◌, ap, ◌∙◌, arith}
use Rattle.std.specs.String.{string_bytes}
use Rattle.graphql_tokens.specs.tokens.Seen.{seen}
use Rattle.graphql_report.specs.inner.Called.{texts}
use Rattle.graphql_report.specs.reports.Words.{expected_of}
use Rattle.graphql_report.proofs.WordLists.{told_as, next-told, all-told}
use Rattle.graphql_report.proofs.words.push_expected.Goals as goal

pub loop-index-preserved : goal.loop-index-preserved
loop-index-preserved c = next-told (told_as c.is_no_enum_value-is_exact.result (seen c.args.token.now).bare) c.args.expected.now c.loop-index.index _ _ _ _ _ _ c.loop-index-test.true c.loop-index.invariant c.words_before.ensures c.in_ok-push_str.ensures.bytes c.in_ok-push_name.ensures

pub returns : goal.returns
returns c =
    let names : List (List ℕ) = texts c.args.expected.now in
    all-told (told_as c.is_no_enum_value-is_exact.result (seen c.args.token.now).bare) c.args.expected.now c.loop-index.index _ _ (omega (arith, c.loop-index-test.false)) c.loop-index.invariant
    ∙ ap (λ (b : Bool). string_bytes c.args.out.now ++ expected_of (told_as b (seen c.args.token.now).bare) names) c.is_no_enum_value-is_exact.ensures
