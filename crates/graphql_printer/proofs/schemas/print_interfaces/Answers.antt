use Rattle.std.proofs.Common.{sym, ap}
use Rattle.graphql_trees.specs.trees.SchemaViews.{kind_tree}
use Rattle.graphql_printer.proofs.Printing.{as_tokens}
use Rattle.graphql_printer.specs.inner.ShownSchemas.{shown_interfaces}
use Rattle.graphql_printer.proofs.schemas.print_interfaces.Goals as goal

pub returns-in-Object : goal.returns-in-Object
returns-in-Object c = as_tokens (ap (λ kind. shown_interfaces (kind_tree kind)) (sym c.in-Object.is)) c.print_implements.ensures

pub returns-in-Interface : goal.returns-in-Interface
returns-in-Interface c = as_tokens (ap (λ kind. shown_interfaces (kind_tree kind)) (sym c.in-Interface.is)) c.print_implements-in-Interface.ensures
