use Rattle.graphql_printer.proofs.Printing.{next, as_tokens, base_shown}
use Rattle.graphql_printer.proofs.parts.+types.Goals as goal

pub print_type-returns : goal.print_type-returns
print_type-returns t c = as_tokens (base_shown c.args.ty.now.base c.args.ty.now.nullable) (next c.in_ok-print_base.ensures c.print_mark.ensures)
