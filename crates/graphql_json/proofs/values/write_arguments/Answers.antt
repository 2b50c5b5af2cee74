use Rattle.std.proofs.Common.{◌≡◌, List, [], drop, map, ap, sym, ◌∙◌, arith, codes}
use Rattle.std.proofs.lemmas.Bool.{eqb-true}
use Rattle.std.proofs.lemmas.List.{at_drop_all, nil_from_length}
use Rattle.graphql_json.proofs.Steps.{as_tokens, whole_list}
use Rattle.graphql_json.specs.inner.Written.{member_tokens}
use Rattle.graphql_json.specs.nodes.Nodes.{items_of}
use Rattle.graphql_json.specs.nodes.Values.{argument_tree, argument_with}
use Rattle.json.specs.Json.{array}
use Rattle.graphql_json.proofs.values.write_arguments.Goals as goal

pub returns : goal.returns
returns g c =
    let lent = c.deref-argument-items in
    let json = λ (arguments : List _). items_of (argument_with g.V.Node.form.json c.args.place) (map (argument_tree g.V.Node.form.tree) arguments) in
    let none = at_drop_all json lent.result.now c.loop-argument.argument-index c.loop-argument-test.false in
    as_tokens (ap (λ arguments. member_tokens (codes "arguments") (array (json arguments))) lent.ensures.value)
    (whole_list (json lent.result.now) (json (drop c.loop-argument.argument-index lent.result.now)) c.in_ok-open_list.ensures c.loop-argument.invariant none c.close_list.ensures)

pub returns-then-is_empty : goal.returns-then-is_empty
returns-then-is_empty g c =
    let items = c.args.arguments.now.items in
    let none : items ≡ [] = nil_from_length items (omega (arith, c.args.arguments.now.ok.0, eqb-true _ _ (sym c.is_empty.ensures ∙ c.if-is_empty.true))) in
    let json = λ (arguments : List _). items_of (argument_with g.V.Node.form.json c.args.place) (map (argument_tree g.V.Node.form.tree) arguments) in
    as_tokens (ap (λ arguments. member_tokens (codes "arguments") (array (json arguments))) (sym none)) c.empty_list.ensures
