use Rattle.std.proofs.lemmas.Result.{IfOk-weaker}
use Rattle.graphql_json.proofs.RequestOrder.{in_source_order}
use Rattle.graphql_json.proofs.request_json.Goals as goal

pub returns-clause-source_order : goal.returns-clause-source_order
returns-clause-source_order c = IfOk-weaker c.tree_json.result _ _ (λ json e. in_source_order c.args.places c.args.document.now json.items e) c.tree_json.ensures.text
