use Rattle.std.proofs.Common.{codes, refl}
use Rattle.graphql_printer.proofs.PrintedSchemas.{same_led}
use Rattle.graphql_printer.proofs.Spellings.{word_spells}
use Rattle.graphql_printer.specs.inner.Shown.{shown_node}
use Rattle.graphql_printer.specs.inner.ShownSchemas.{shown_name}
use Rattle.graphql_printer.proofs.schemas.print_implements.Goals as goal

pub separated-requires-clause-lead : goal.separated-requires-clause-lead
separated-requires-clause-lead c = word_spells (codes "implements") refl

pub returns : goal.returns
returns c = same_led _ _ (shown_node shown_name) c.args.names.now.items c.separated.ensures
