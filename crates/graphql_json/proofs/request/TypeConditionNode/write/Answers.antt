use Rattle.std.proofs.Common.{ap}
use Rattle.graphql_json.proofs.Steps.{as_tokens}
use Rattle.graphql_json.specs.nodes.Values.{named_type_json}
use Rattle.json.specs.Tree.{json_tokens}
use Rattle.graphql_json.proofs.request.TypeConditionNode.write.Goals as goal

pub returns : goal.returns
returns c = as_tokens (ap (λ place. json_tokens (named_type_json place c.args.self.now.on.node)) c.at.ensures) c.write_named_type.ensures
