use Rattle.std.proofs.Common.{◌≡◌, ◌++◌, drop, map}
use Rattle.graphql_parser.specs.trees.Parts.{placed}
use Rattle.graphql_packed.specs.packed.Bytes.{each_bytes, node_bytes}
use Rattle.graphql_packed.proofs.buffer.Buffer.nodes.Given as goal

abbrev pub invariant-loop-node : goal.invariant-loop-node
invariant-loop-node g l =
    let rest = each_bytes (node_bytes g.N.Packed.form.bytes) (map (placed g.N.Packed.form.tree) (drop l.node-index l.node-items)) in
    let all = each_bytes (node_bytes g.N.Packed.form.bytes) (map (placed g.N.Packed.form.tree) l.node-items) in
    l.self ++ rest ≡ l.initial.self ++ all
