use Rattle.graphql_report.specs.reports.Refused.{IsKnown}
use Rattle.graphql_report.proofs.Refusing.{finding-syntax}
use Rattle.graphql_report.proofs.findings.finding_from.Goals as goal

pub returns-in-Syntax : goal.returns-in-Syntax
returns-in-Syntax c = finding-syntax (IsKnown c.args.language c.args.limits c.args.text.now c.args.read.now) c.args.language c.args.limits c.args.text.now c.args.read.now.from c.args.read.now.unclosed c.args.error.now _ _ _ c.syntax_finding.result c.in-Syntax.is c.syntax_finding.ensures
