use Rattle.std.proofs.Common.{◌≡◌, ◌++◌, drop, map}
use Rattle.graphql_parser.specs.trees.Parts.{placed}
use Rattle.graphql_json.specs.nodes.Nodes.{items_of, placed_json}
use Rattle.json.specs.Tree.{items_tokens}
use Rattle.graphql_json.proofs.sheet.Sheet.nodes.Given as goal

abbrev pub invariant-loop-node : goal.invariant-loop-node
invariant-loop-node g l =
    let rest = items_tokens (items_of (placed_json g.N.Node.form.json l.place) (map (placed g.N.Node.form.tree) (drop l.node-index l.node-items))) in
    let all = items_tokens (items_of (placed_json g.N.Node.form.json l.place) (map (placed g.N.Node.form.tree) l.node-items)) in
    l.self ++ rest ≡ l.initial.self ++ all
