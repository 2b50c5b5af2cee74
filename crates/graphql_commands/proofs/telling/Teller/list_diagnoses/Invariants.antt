use Rattle.std.proofs.Common.{◌≡◌}
use Rattle.graphql_commands.proofs.telling.Teller.list_diagnoses.Given as goal

abbrev pub invariant-loop-diagnosis : goal.invariant-loop-diagnosis
invariant-loop-diagnosis l = record { text : l.places.text ≡ l.source.text.now; passed : l.places.offset ≡ l.passed }
