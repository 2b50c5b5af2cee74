use Rattle.graphql_report.proofs.Refusing.{its-token}
use Rattle.graphql_report.proofs.refused.refused_in.Goals as goal

pub returns : goal.returns
returns c = its-token c.args.language c.args.limits c.args.text.now c.check_to-answer.result.0 c.check_to-answer.result.1 c.utf8.text (λ out. let told = c.is_out_of_memory.ensures out in absurd cc) c.check_to-answer.ensures
