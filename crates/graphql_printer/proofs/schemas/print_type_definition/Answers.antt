use Rattle.std.proofs.Common.{ap, [], ◌∷◌}
use Rattle.graphql_printer.proofs.Printing.{next, kept, as_tokens}
use Rattle.graphql_printer.specs.inner.Shown.{word}
use Rattle.graphql_printer.proofs.schemas.print_type_definition.Goals as goal

pub returns : goal.returns
returns c =
    let keyword = as_tokens (ap (λ name. word name ∷ []) c.kind_word.ensures) c.in_ok-word.ensures in
    let name = as_tokens (ap (λ name. word name ∷ []) c.as_str.ensures) c.in_ok-word-2.ensures in
    next c.in_ok-print_description.ensures (next c.in_ok-print_extend.ensures (next keyword (kept c.in_ok-blank.ensures (next name
    (next c.in_ok-print_interfaces.ensures (next c.in_ok-each.ensures c.print_contents.ensures))))))
