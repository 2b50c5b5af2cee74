use Rattle.std.proofs.Common.{List, [], ◌∷◌, ◌++◌, All, sym, subst}
use Rattle.std.proofs.lemmas.List.Elements.{All-push}
use Rattle.graphql_server.specs.declared.messages.Diagnostic.{Diagnostic}
use Rattle.graphql_server.specs.Ranges.{IsDiagnosticOf, AllShown}
use Rattle.graphql_server.proofs.Shown.{shown-append}
use Rattle.graphql_server.proofs.diagnostics.shown.Goals as goal

pub loop-diagnosis-preserved : goal.loop-diagnosis-preserved
loop-diagnosis-preserved c =
    let encoding = c.args.encoding in
    let text = c.args.document.now in
    let told = c.loop-diagnosis.diagnostics.items in
    let one = c.diagnostic_of.result in
    record {
      ranges = subst (λ (l : List Diagnostic). All (IsDiagnosticOf encoding text) l) (sym {A = List Diagnostic} c.in_ok-push.ensures.items)
          (All-push (IsDiagnosticOf encoding text) told one c.loop-diagnosis.invariant.ranges c.diagnostic_of.ensures.ranges);
      shown = subst (λ (l : List Diagnostic). AllShown encoding text (c.loop-diagnosis.yielded ++ (c.in-Some.diagnosis ∷ [])) l) (sym {A = List Diagnostic} c.in_ok-push.ensures.items)
          (shown-append encoding text c.loop-diagnosis.yielded told c.in-Some.diagnosis one c.loop-diagnosis.invariant.shown c.diagnostic_of.ensures.shows);
    }
