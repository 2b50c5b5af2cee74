use Rattle.std.proofs.Common.{◌≡◌, ◌++◌, drop, map}
use Rattle.graphql_trees.specs.trees.SchemaViews.{definition_tree}
use Rattle.graphql_printer.specs.inner.Shown.{by_values}
use Rattle.graphql_printer.specs.inner.ShownSchemas.{shown_file}
use Rattle.graphql_printer.proofs.schemas.print_file.Given as goal

abbrev pub invariant-loop-definition : goal.invariant-loop-definition
invariant-loop-definition l =
    let rest = by_values (shown_file (map definition_tree (drop l.definition-index l.definition-items))) in
    let all = by_values (shown_file (map definition_tree l.definition-items)) in
    l.out ++ rest ≡ l.initial.out ++ all
