use Rattle.std.proofs.Common.{◌≡◌, ◌-◌, ◌^◌, ◌++◌, length, map}
use Rattle.std.specs.Prelude.{min}
use Rattle.std.specs.Str.{encode_utf8_all}
use Rattle.std.specs.String.{string_bytes}
use Rattle.graphql_report.specs.reports.Words.{shown_for}
use Rattle.graphql_report.proofs.words.push_cut.Given as goal

abbrev pub invariant-loop-c : goal.invariant-loop-c
invariant-loop-c l = record {
  passed : l.passed ≡ min (length (encode_utf8_all l.yielded)) (2 ^ 64 - 1);
  told : string_bytes l.out ≡ string_bytes l.fn.out ++ encode_utf8_all (map shown_for l.yielded);
}
