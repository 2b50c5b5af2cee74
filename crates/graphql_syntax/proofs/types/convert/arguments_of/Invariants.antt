use Rattle.std.proofs.Common.{◌≡◌, ◌++◌}
use Rattle.std.specs.Vec.Iter.{into_iter_items}
use Rattle.graphql_syntax.specs.trees.PartViews.{arguments_tree, const_arguments_tree}
use Rattle.graphql_syntax.proofs.types.convert.arguments_of.Given as goal

abbrev pub invariant-loop-name : goal.invariant-loop-name
invariant-loop-name l =
    (l.fn.arguments.items ≡ l.yielded ++ into_iter_items l.name-iterator) ×
    (arguments_tree l.made.items ≡ const_arguments_tree l.yielded)
