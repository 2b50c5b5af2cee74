use Rattle.std.proofs.Common.{◌≡◌, ◌++◌, drop, map}
use Rattle.std.specs.List.{flat_map}
use Rattle.graphql_printer.specs.inner.Shown.{by_values, argument_by, shown_argument_by}
use Rattle.graphql_printer.proofs.parts.each_argument.Given as goal

abbrev pub invariant-loop-argument : goal.invariant-loop-argument
invariant-loop-argument g l =
    let rest = by_values (flat_map (shown_argument_by g.V.Print.form.shown) (map (argument_by g.V.Print.form.tree) (drop l.argument-index l.argument-items))) in
    let all = by_values (flat_map (shown_argument_by g.V.Print.form.shown) (map (argument_by g.V.Print.form.tree) l.argument-items)) in
    l.out ++ rest ≡ l.initial.out ++ all
