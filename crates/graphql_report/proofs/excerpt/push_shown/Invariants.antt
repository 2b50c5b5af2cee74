use Rattle.std.proofs.Common.{◌≡◌, ◌++◌, map}
use Rattle.std.specs.Str.{encode_utf8_all}
use Rattle.std.specs.String.{string_bytes}
use Rattle.graphql_report.specs.reports.Words.{shown_for}
use Rattle.graphql_report.proofs.excerpt.push_shown.Given as goal

abbrev pub invariant-loop-c : goal.invariant-loop-c
invariant-loop-c l = string_bytes l.out ≡ string_bytes l.fn.out ++ encode_utf8_all (map shown_for l.yielded)
