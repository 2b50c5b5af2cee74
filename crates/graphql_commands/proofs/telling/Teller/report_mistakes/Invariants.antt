use Rattle.graphql_report.specs.reports.Rests.{BeginsAt}
use Rattle.graphql_commands.proofs.telling.Teller.report_mistakes.Given as goal

abbrev pub invariant-loop : goal.invariant-loop
invariant-loop l = BeginsAt l.source.text.now l.mistake.known.from
