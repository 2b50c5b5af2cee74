use Rattle.graphql_report.proofs.Refusing.{of-error}
use Rattle.graphql_report.proofs.refused.refused_token.Goals as goal

pub returns-then-is_of_token : goal.returns-then-is_of_token
returns-then-is_of_token c = of-error c.args.language c.args.limits c.args.text.now c.args.error.now c.refused_in.result c.refused_in.ensures
