use Rattle.std.proofs.Common.{ap, sym, ◌∙◌, true, codes}
use Rattle.graphql_parser.specs.trees.TypeTree.{base_tree, type_tree}
use Rattle.graphql_json.proofs.Steps.{next, as_tokens, whole_node}
use Rattle.graphql_json.proofs.Types.{non_null}
use Rattle.graphql_json.specs.nodes.Nodes.{nowhere}
use Rattle.graphql_json.specs.nodes.Values.{type_json}
use Rattle.json.specs.Tree.{json_tokens}
use Rattle.graphql_json.proofs.values.+types.Goals as goal

pub write_base-returns-in_ok-write_type-in-List : goal.write_base-returns-in_ok-write_type-in-List
write_base-returns-in_ok-write_type-in-List t c =
    let place = c.args.place in
    let lent = as_tokens (ap (λ p. json_tokens (type_json p (type_tree c.deref.result.now))) c.nowhere.ensures) c.in_ok-write_type-in-List.ensures in
    let inner = as_tokens (ap (λ ty. json_tokens (type_json (nowhere place) (type_tree ty))) c.deref.ensures) lent in
    as_tokens (ap (λ base. json_tokens (type_json place (base_tree base true))) (sym c.in-List.is))
    (whole_node (codes "ListType") place _ c.in_ok-begin-in-List.ensures (next c.in_ok-key-in-List.ensures (next inner c.close.ensures)))

pub write_type-returns : goal.write_type-returns
write_type-returns t c =
    let place = c.args.place in
    let ty = c.args.ty.now in
    as_tokens (ap json_tokens (sym (ap (λ nullable. type_json place (base_tree ty.base nullable)) c.if-ty.false ∙ non_null place ty.base)))
    (whole_node _ _ _ c.in_ok-begin.ensures (next c.in_ok-key.ensures (next c.in_ok-write_base.ensures c.close.ensures)))
