use Rattle.graphql_syntax.specs.inner.TreeLaws.{same_tree-is}
use Rattle.graphql_syntax.proofs.value.equality.ConstValuePartialEq.eq.Goals as goal

pub returns-clause-same : goal.returns-clause-same
returns-clause-same c = rw c.same_const.ensures (same_tree-is _ _)
