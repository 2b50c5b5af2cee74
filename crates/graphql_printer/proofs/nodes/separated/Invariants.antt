use Rattle.std.proofs.Common.{◌≡◌, ◌∷◌, ◌++◌, drop, map}
use Rattle.std.specs.List.{flat_map}
use Rattle.graphql_tokens.specs.declared.lexer.TokenKind.TheVariants.{Punct}
use Rattle.graphql_syntax.specs.trees.Parts.{placed}
use Rattle.graphql_printer.specs.inner.Shown.{shown_node, by_values}
use Rattle.graphql_printer.proofs.nodes.separated.Given as goal

abbrev pub invariant-loop-node : goal.invariant-loop-node
invariant-loop-node g l =
    let marked = λ (node : _). record { kind = Punct; spelling = l.mark } ∷ shown_node g.N.Print.form.shown node in
    let rest = by_values (flat_map marked (map (placed g.N.Print.form.tree) (drop l.node-index l.others))) in
    let all = by_values (flat_map marked (map (placed g.N.Print.form.tree) l.others)) in
    l.out ++ rest ≡ l.initial.out ++ all
