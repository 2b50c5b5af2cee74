use Rattle.std.proofs.Common.{length}
use denote.Text.{Utf8}
use denote.Shadow.{shadow}
use Rattle.std.specs.Str.{chars}
use Rattle.graphql_tokens.specs.tokens.Numbers.{AllDigits}
use Rattle.graphql_report.specs.inner.Strings.{IsAfter}
use Rattle.graphql_report.proofs.faults.after_digits.Given as goal

abbrev pub invariant-loop-c : goal.invariant-loop-c
invariant-loop-c l = shadow (Utf8 l.rest) × IsAfter AllDigits (chars l.text) (chars l.rest)

abbrev pub decreases-loop-c : goal.decreases-loop-c
decreases-loop-c l = length l.rest
