use Rattle.std.proofs.Common.{◌≡◌, drop}
use Rattle.graphql_syntax.specs.calls.Constants.{arguments_have_variable}
use Rattle.graphql_syntax.specs.trees.PartViews.{arguments_tree}
use Rattle.graphql_syntax.proofs.types.convert.arguments_hold.Given as goal

abbrev pub invariant-loop-argument : goal.invariant-loop-argument
invariant-loop-argument l =
    arguments_have_variable (arguments_tree l.arguments.items) ≡ arguments_have_variable (arguments_tree (drop l.argument-index l.argument-items))
