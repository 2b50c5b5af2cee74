use Rattle.std.specs.String.{string_bytes}
use Rattle.graphql_report.proofs.Refusing.{report-known}
use Rattle.graphql_report.proofs.report.explain_in.Goals as goal

pub returns : goal.returns
returns c = report-known string_bytes c.args.style c.args.file_name.now c.args.language c.args.limits c.args.text.now c.in_ok-read.field-0 c.args.error.now c.explain_from.result c.in_ok-read.ensures.top c.in_ok-read.ensures.closed c.in_ok-read.ensures.token c.explain_from.ensures
