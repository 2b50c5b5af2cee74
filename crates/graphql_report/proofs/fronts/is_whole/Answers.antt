use Rattle.graphql_report.proofs.Checks.{tree-of-accepted, tree-of-refused}
use Rattle.graphql_report.proofs.fronts.is_whole.Goals as goal

pub returns-in-Ok : goal.returns-in-Ok
returns-in-Ok c = tree-of-accepted c.args.language c.args.limits c.args.text.now c.in-Ok.field-0 c.in-Ok.ensures

pub returns-in-Err : goal.returns-in-Err
returns-in-Err c = tree-of-refused c.args.language c.args.limits c.args.text.now c.in-Err.error c.in-Err.ensures c.has_tree.result c.has_tree.ensures
