use Rattle.std.proofs.Common.{◌++◌, ap, ◌∙◌}
use Rattle.graphql_trees.specs.trees.SchemaViews.{schema_document_tree}
use Rattle.graphql_printer.specs.inner.Shown.{by_values}
use Rattle.graphql_printer.specs.inner.ShownSchemas.{shown_file}
use Rattle.graphql_printer.proofs.PrintedFiles.{result_printed, result_clear}
use Rattle.graphql_printer.proofs.schemas.print_schema.Goals as goal

pub returns-clause-printed : goal.returns-clause-printed
returns-clause-printed c =
    let file = by_values (shown_file (schema_document_tree c.args.document.now)) in
    let raw = c.in_ok-print_file.ensures.ok ∙ ap (λ l. l ++ file) c.new-tokens.ensures in
    result_printed c.finish.result c.args.document.now c.print_file.new.out raw c.finish.ensures

pub returns-clause-clear : goal.returns-clause-clear
returns-clause-clear c =
    let file = by_values (shown_file (schema_document_tree c.args.document.now)) in
    let raw = c.in_ok-print_file.ensures.ok ∙ ap (λ l. l ++ file) c.new-tokens.ensures in
    result_clear c.finish.result c.args.document.now c.print_file.new.out raw c.finish.ensures
