use Rattle.graphql_report.proofs.Checks.{front-of-accepted, front-of-refused}
use Rattle.graphql_report.proofs.fronts.is_front.Goals as goal

pub returns-in-Ok : goal.returns-in-Ok
returns-in-Ok c = front-of-accepted c.args.language c.args.limits c.args.text.now c.utf8.text c.in-Ok.field-0 c.in-Ok.ensures

pub returns-in-Err : goal.returns-in-Err
returns-in-Err c = front-of-refused c.args.language c.args.limits c.args.text.now c.end_of.result c.utf8.text c.requires c.end_of.ensures c.in-Err.error c.in-Err.ensures c.goes_on.result c.goes_on.ensures
