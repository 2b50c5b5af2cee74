use Rattle.std.proofs.Common.{take}
use Rattle.graphql_report.specs.reports.Expected.{AreTaken}
use Rattle.graphql_report.specs.inner.Called.{samples_of, texts}
use Rattle.graphql_report.proofs.expected.taken.Given as goal

abbrev pub invariant-loop-sample : goal.invariant-loop-sample
invariant-loop-sample l = AreTaken l.language l.limits l.line (samples_of (take l.sample-index l.samples)) (texts l.taken.items)
