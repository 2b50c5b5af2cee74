use Rattle.std.proofs.Common.{◌≡◌, ◌++◌, drop, map}
use Rattle.std.specs.List.{flat_map}
use Rattle.graphql_syntax.specs.trees.Parts.{placed}
use Rattle.graphql_printer.specs.inner.Shown.{shown_node, by_values}
use Rattle.graphql_printer.proofs.nodes.each.Given as goal

abbrev pub invariant-loop-node : goal.invariant-loop-node
invariant-loop-node g l =
    let rest = by_values (flat_map (shown_node g.N.Print.form.shown) (map (placed g.N.Print.form.tree) (drop l.node-index l.node-items))) in
    let all = by_values (flat_map (shown_node g.N.Print.form.shown) (map (placed g.N.Print.form.tree) l.node-items)) in
    l.out ++ rest ≡ l.initial.out ++ all
