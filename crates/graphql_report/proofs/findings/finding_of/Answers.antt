use Rattle.graphql_report.proofs.Refusing.{finding-known}
use Rattle.graphql_report.proofs.findings.finding_of.Goals as goal

pub returns : goal.returns
returns c = finding-known c.args.language c.args.limits c.args.text.now c.in_ok-read.read c.args.error.now c.finding_from.result c.in_ok-read.ensures.top c.in_ok-read.ensures.closed c.in_ok-read.ensures.token c.finding_from.ensures
