use Rattle.std.proofs.Common.{ap, [], ◌∷◌, codes, refl}
use Rattle.graphql_printer.proofs.PrintedSchemas.{same_led}
use Rattle.graphql_printer.proofs.Printing.{next, kept, as_tokens}
use Rattle.graphql_printer.proofs.Spellings.{word_spells}
use Rattle.graphql_printer.specs.inner.Shown.{word, shown_node}
use Rattle.graphql_printer.specs.inner.ShownSchemas.{shown_location}
use Rattle.graphql_printer.proofs.schemas.print_directive.Goals as goal

pub separated-requires-clause-lead : goal.separated-requires-clause-lead
separated-requires-clause-lead c = word_spells (codes "on") refl

pub returns : goal.returns
returns c =
    let name = as_tokens (ap (λ name. word name ∷ []) c.as_str.ensures) c.in_ok-word-2.ensures in
    next c.in_ok-print_description.ensures (next c.in_ok-word.ensures (kept c.in_ok-blank.ensures (next c.in_ok-sign.ensures (next name
    (next c.in_ok-in_parentheses.ensures (next c.in_ok-print_repeatable.ensures (same_led _ _ (shown_node shown_location) c.args.directive.now.locations.items c.separated.ensures)))))))
