use Rattle.std.proofs.Common.{sym, ap, codes, refl}
use Rattle.graphql_trees.specs.trees.SchemaViews.{kind_tree}
use Rattle.graphql_printer.proofs.PrintedSchemas.{same_led}
use Rattle.graphql_printer.proofs.Printing.{as_tokens}
use Rattle.graphql_printer.proofs.Spellings.{sign_spells}
use Rattle.graphql_printer.specs.inner.Shown.{shown_node}
use Rattle.graphql_printer.specs.inner.ShownSchemas.{shown_name, shown_contents}
use Rattle.graphql_printer.proofs.schemas.print_contents.Goals as goal

pub separated-requires-clause-lead : goal.separated-requires-clause-lead
separated-requires-clause-lead c = sign_spells (codes "=") refl

pub returns-in-Union : goal.returns-in-Union
returns-in-Union c = as_tokens (ap (λ kind. shown_contents (kind_tree kind)) (sym c.in-Union.is)) (same_led _ _ (shown_node shown_name) c.in-Union.union.members.items c.separated.ensures)
