use Rattle.std.proofs.Common.{◌≡◌, ◌==◌, ◌++◌, drop}
use Rattle.std.specs.String.{string_bytes}
use Rattle.graphql_tokens.specs.tokens.Seen.{seen}
use Rattle.graphql_report.specs.inner.Called.{texts}
use Rattle.graphql_report.specs.reports.Words.{expected_of}
use Rattle.graphql_report.proofs.WordLists.{told_as, told_from}
use Rattle.graphql_report.proofs.words.push_expected.Given as goal

abbrev pub invariant-loop-index : goal.invariant-loop-index
invariant-loop-index l =
    let told = told_as l.is_exact (seen l.token).bare in
    string_bytes l.out ++ told_from told (l.index == 0) (texts (drop l.index l.expected)) ≡ string_bytes l.fn.out ++ expected_of told (texts l.expected)
