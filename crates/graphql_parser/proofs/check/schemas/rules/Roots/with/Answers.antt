use Rattle.graphql_parser.proofs.SchemaRoots.{roots-more}
use Rattle.graphql_parser.proofs.check.schemas.rules.Roots.with.Goals as goal

pub returns : goal.returns
returns c roots last is head = roots-more roots last c.args.self c.args.root is head _ _ _ c.again.result _ c.is_met.ensures c.is_met-2.ensures c.is_met-3.ensures (c.again.ensures roots is) c.or.ensures
