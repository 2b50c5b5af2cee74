use Rattle.graphql_server.proofs.Shown.{none-shown}
use Rattle.graphql_server.proofs.diagnostics.diagnostics_of.Goals as goal

pub returns-clause-good : goal.returns-clause-good
returns-clause-good c = λ e. c.in_ok-found.ensures (none-shown c.args.encoding c.args.document.now _ _ e c.in_ok-diagnostics.ensures.shown)
