use Rattle.std.proofs.Common.{◌≤◌, ◌+◌, length}
use Rattle.graphql_memory.specs.Memory.{small_credit}
use Rattle.graphql_reading.specs.reading.Funds.{Spares}
use Rattle.graphql_reading.specs.reading.Worth.{per_token}
use Rattle.graphql_requests.specs.contracts.selections.OpenSet.{the_row}
use Rattle.graphql_requests.specs.reading.SelectionFunds.{selections_credit}
use Rattle.graphql_trees.specs.trees.RequestViews.{selection_trees}
use Rattle.graphql_requests.proofs.OpenParts.{Wanted, Behind, nest}
use Rattle.graphql_requests.proofs.selections.read_selection_set.Given as goal

abbrev pub invariant-loop-outer : goal.invariant-loop-outer
invariant-loop-outer l = record {
  nested : length l.outer.items ≤ l.limits.selections;
  paid : Spares (per_token + selections_credit l.items + small_credit 8 the_row l.outer) l.fn.parser l.parser;
  wanted : Wanted l.limits.values l.limits.selections l.fn.parser l.parser (nest l.limits.selections l.outer.items) l.own (selection_trees l.items.items);
}

abbrev pub decreases-loop-outer : goal.decreases-loop-outer
decreases-loop-outer l = length l.parser.after

abbrev pub invariant-loop-nests : goal.invariant-loop-nests
invariant-loop-nests l = record {
  nested : length l.outer.items ≤ l.limits.selections;
  paid : Spares (per_token + selections_credit l.items + small_credit 8 the_row l.outer) l.fn.parser l.parser;
  behind : Behind l.limits.values l.limits.selections (length l.initial.parser.after) l.fn.parser l.parser (nest l.limits.selections l.outer.items) l.own (selection_trees l.items.items);
}

abbrev pub decreases-loop-nests : goal.decreases-loop-nests
decreases-loop-nests l = length l.parser.after
