use Rattle.std.proofs.Common.{◌++◌, ap, ◌∙◌}
use Rattle.graphql_trees.specs.trees.RequestViews.{document_tree}
use Rattle.graphql_printer.specs.inner.Shown.{by_values}
use Rattle.graphql_printer.specs.inner.ShownRequests.{shown_request}
use Rattle.graphql_printer.proofs.PrintedQueries.{query_printed, query_clear}
use Rattle.graphql_printer.proofs.requests.print_query.Goals as goal

pub returns-clause-printed : goal.returns-clause-printed
returns-clause-printed c =
    let document = c.args.document.now in
    query_printed document c.print_request.new.out c.finish.result
    (c.in_ok-print_request.ensures.ok ∙ ap (λ l. l ++ by_values (shown_request (document_tree document))) c.new-tokens.ensures) c.finish.ensures

pub returns-clause-clear : goal.returns-clause-clear
returns-clause-clear c =
    let document = c.args.document.now in
    query_clear document c.print_request.new.out c.finish.result
    (c.in_ok-print_request.ensures.ok ∙ ap (λ l. l ++ by_values (shown_request (document_tree document))) c.new-tokens.ensures) c.finish.ensures
