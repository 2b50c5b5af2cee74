use Rattle.std.proofs.Common.{◌≡◌, ◌++◌, false}
use Rattle.std.specs.Vec.Iter.{into_iter_items}
use Rattle.graphql_syntax.specs.calls.Constants.{arguments_have_variable}
use Rattle.graphql_syntax.specs.trees.PartViews.{arguments_tree, const_arguments_tree}
use Rattle.graphql_syntax.proofs.types.convert.const_arguments_of.Given as goal

abbrev pub invariant-loop-name : goal.invariant-loop-name
invariant-loop-name l =
    (l.fn.arguments.items ≡ l.yielded ++ into_iter_items l.name-iterator) ×
    (const_arguments_tree l.made.items ≡ arguments_tree l.yielded) ×
    (arguments_have_variable (arguments_tree (into_iter_items l.name-iterator)) ≡ false)
