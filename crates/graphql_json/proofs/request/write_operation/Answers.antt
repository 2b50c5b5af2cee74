use Rattle.std.proofs.Common.{ap, codes}
use Rattle.graphql_json.proofs.Steps.{next, next_optional, as_tokens, whole_node}
use Rattle.graphql_json.specs.inner.Written.{member_tokens, opening}
use Rattle.json.specs.Json.{string}
use Rattle.graphql_json.proofs.request.write_operation.Goals as goal

pub returns : goal.returns
returns c =
    let opened = as_tokens (ap (λ place. opening _ place) c.at.ensures) c.in_ok-begin.ensures in
    let word = as_tokens (ap (λ word. member_tokens (codes "operation") (string word)) c.operation_word.ensures) c.in_ok-text.ensures in
    whole_node _ _ _ opened
    (next word (next_optional _ _ _ _ c.in_ok-write_optional_name.ensures (next c.in_ok-nodes.ensures (next c.in_ok-nodes-2.ensures (next c.in_ok-write_set.ensures c.close.ensures)))))
