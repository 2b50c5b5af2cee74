use Rattle.std.proofs.Common.{◌<◌, length, All}
use Rattle.graphql_report.specs.reports.Rests.{BeginsAt}
use Rattle.graphql_texts.specs.checked.Diagnosed.{IsDiagnosisOf}
use Rattle.graphql_texts.proofs.diagnoses.diagnoses_from.Given as goal

abbrev pub invariant-loop : goal.invariant-loop
invariant-loop l = record {
  begins : BeginsAt l.source.text.now l.mistake.known.from;
  some : 0 < length l.found.items;
  within : All (IsDiagnosisOf l.source.text.now) l.found.items;
}
