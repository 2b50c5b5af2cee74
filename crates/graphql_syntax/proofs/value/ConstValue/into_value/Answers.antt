use Rattle.graphql_syntax.proofs.Constant.{still_constant}
use Rattle.graphql_syntax.proofs.value.ConstValue.into_value.Goals as goal

pub returns-clause-constant : goal.returns-clause-constant
returns-clause-constant c = still_constant c.args.self c.value_of.result c.value_of.ensures
