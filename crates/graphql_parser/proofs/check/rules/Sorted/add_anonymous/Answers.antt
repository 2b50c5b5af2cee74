use Rattle.std.proofs.Common.{refl}
use Rattle.graphql_parser.proofs.Sorted.{sorted-anonymous}
use Rattle.graphql_parser.proofs.check.rules.Sorted.add_anonymous.Goals as goal

pub returns-clause-added : goal.returns-clause-added
returns-clause-added c ds h = sorted-anonymous ds c.args.self.now _ c.args.place h c.in_default.is refl refl refl refl
