use Rattle.std.proofs.Common.{sym, refl, ◌∙◌}
use Rattle.graphql_requests.proofs.Sorted.{sorted-anonymous}
use Rattle.graphql_requests.proofs.rules.Sorted.add_anonymous.Goals as goal

pub returns-clause-added : goal.returns-clause-added
returns-clause-added c ds h = sorted-anonymous ds c.args.self.now _ c.args.operation h (sym c.first_operation.ensures ∙ c.in_default.is) refl refl refl
