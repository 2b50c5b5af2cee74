use Rattle.std.proofs.Common.{sym, ◌∙◌}
use Rattle.graphql_printer.proofs.PrintedSchemas.{nothing, no_roots, some_roots}
use Rattle.graphql_printer.proofs.Printing.{next, kept, as_tokens}
use Rattle.graphql_printer.proofs.schemas.print_roots.Goals as goal

pub returns-then-are_none : goal.returns-then-are_none
returns-then-are_none c =
    let roots = c.ordered_roots-roots.result in
    as_tokens (sym (no_roots roots.0.1.now roots.1.1.now roots.2.1.now roots.0.0 roots.1.0 roots.2.0 _ (sym c.are_none.ensures ∙ c.if-are_none.true) c.ordered_roots-roots.ensures))
    (nothing c.args.out.now)

pub returns : goal.returns
returns c =
    let roots = c.ordered_roots-roots.result in
    as_tokens (some_roots roots.0.1.now roots.1.1.now roots.2.1.now roots.0.0 roots.1.0 roots.2.0 _ (sym c.are_none.ensures ∙ c.if-are_none.false) c.ordered_roots-roots.ensures)
    (kept c.in_ok-blank.ensures (next c.in_ok-open.ensures (next c.in_ok-print_root.ensures (next c.in_ok-print_root-2.ensures (next c.in_ok-print_root-3.ensures c.close.ensures)))))
