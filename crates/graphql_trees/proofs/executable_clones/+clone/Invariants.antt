use Rattle.std.proofs.Common.{◌≡◌, take}
use Rattle.graphql_trees.specs.trees.RequestViews.{selection_trees}
use Rattle.graphql_trees.proofs.executable_clones.+clone.Given as goal

abbrev pub invariant-SelectionSetClone::clone-loop-item : goal.invariant-SelectionSetClone::clone-loop-item
invariant-SelectionSetClone::clone-loop-item l = selection_trees l.items.items ≡ selection_trees (take l.item-index l.item-items)
