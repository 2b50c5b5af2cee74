use Rattle.std.proofs.Common.{ap, codes}
use Rattle.graphql_json.proofs.Steps.{next, as_tokens, whole_node}
use Rattle.graphql_json.specs.inner.Written.{opening, member_tokens}
use Rattle.graphql_json.specs.nodes.Values.{named_type_json}
use Rattle.json.specs.Json.{string}
use Rattle.json.specs.Tree.{json_tokens}
use Rattle.graphql_json.proofs.schema.write_named_root.Goals as goal

pub returns : goal.returns
returns c =
    let opened = as_tokens (ap (λ place. opening _ place) c.nowhere.ensures) c.in_ok-begin.ensures in
    let word = as_tokens (ap (λ word. member_tokens (codes "operation") (string word)) c.operation_word.ensures) c.in_ok-text.ensures in
    let type = as_tokens (ap (λ place. json_tokens (named_type_json place c.args.name.now.node)) c.at.ensures) c.in_ok-write_named_type.ensures in
    whole_node _ _ _ opened (next word (next c.in_ok-key.ensures (next type c.close.ensures)))
