use Rattle.std.specs.Prelude.{All}
use Rattle.graphql_server.specs.Ranges.{IsDiagnosticOf, AllShown}
use Rattle.graphql_server.proofs.diagnostics.shown.Given as goal

abbrev pub invariant-loop-diagnosis : goal.invariant-loop-diagnosis
invariant-loop-diagnosis l = record {
  ranges : All (IsDiagnosticOf l.encoding l.document) l.diagnostics.items;
  shown : AllShown l.encoding l.document l.yielded l.diagnostics.items;
}
