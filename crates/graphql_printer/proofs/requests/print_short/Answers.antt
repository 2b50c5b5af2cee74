use Rattle.std.proofs.Common.{sym, ◌∙◌}
use Rattle.graphql_trees.specs.trees.RequestViews.{selection_set_tree}
use Rattle.graphql_printer.proofs.PrintedRequests.{some_braced}
use Rattle.graphql_printer.proofs.Printing.{kept, as_tokens}
use Rattle.graphql_printer.specs.inner.ShownRequests.{shown_selections}
use Rattle.graphql_printer.proofs.requests.print_short.Goals as goal

pub returns : goal.returns
returns c =
    as_tokens (some_braced c.args.set.now (shown_selections (selection_set_tree c.args.set.now)) (sym c.is_empty.ensures ∙ c.if-is_empty.false))
    (kept c.in_ok-begin_definition.ensures c.print_braced.ensures)
