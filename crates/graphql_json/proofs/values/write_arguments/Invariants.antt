use Rattle.std.proofs.Common.{◌≡◌, ◌++◌, drop, map}
use Rattle.graphql_json.specs.nodes.Nodes.{items_of}
use Rattle.graphql_json.specs.nodes.Values.{argument_tree, argument_with}
use Rattle.json.specs.Tree.{items_tokens}
use Rattle.graphql_json.proofs.values.write_arguments.Given as goal

abbrev pub invariant-loop-argument : goal.invariant-loop-argument
invariant-loop-argument g l =
    let rest = items_tokens (items_of (argument_with g.V.Node.form.json l.place) (map (argument_tree g.V.Node.form.tree) (drop l.argument-index l.argument-items))) in
    let all = items_tokens (items_of (argument_with g.V.Node.form.json l.place) (map (argument_tree g.V.Node.form.tree) l.argument-items)) in
    l.sheet ++ rest ≡ l.initial.sheet ++ all
