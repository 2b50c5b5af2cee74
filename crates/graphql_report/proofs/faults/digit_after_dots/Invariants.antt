use Rattle.std.proofs.Common.{◌≡◌, length}
use denote.Text.{Utf8}
use denote.Shadow.{shadow}
use Rattle.std.specs.Str.{chars}
use Rattle.graphql_report.specs.reports.Faults.{digit_after_dots}
use Rattle.graphql_report.proofs.faults.digit_after_dots.Given as goal

abbrev pub invariant-loop-c : goal.invariant-loop-c
invariant-loop-c l = shadow (Utf8 l.rest) × (digit_after_dots (chars l.text) ≡ digit_after_dots (chars l.rest))

abbrev pub decreases-loop-c : goal.decreases-loop-c
decreases-loop-c l = length l.rest
