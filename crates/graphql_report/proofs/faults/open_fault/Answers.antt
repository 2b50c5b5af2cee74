use Rattle.std.specs.Str.{chars}
use Rattle.graphql_report.specs.reports.Faults.{open_block, open_string}
use Rattle.graphql_report.proofs.StringTexts.{block-quoted, no-escape, not-block}
use Rattle.graphql_report.proofs.faults.open_fault.Goals as goal

pub returns-then-starts_with-clause-told : goal.returns-then-starts_with-clause-told
returns-then-starts_with-clause-told c = λ value. open_block (block-quoted c.args.text.now _ c.utf8.text c.if-starts_with.ensures.cases.1.1) c.in_ok-block.ensures.ok

pub returns-clause-told : goal.returns-clause-told
returns-clause-told c = λ value. open_string c.requires.quote.0 c.requires.quote.1 (no-escape (chars c.args.text.now) c.requires.good) (not-block c.args.text.now c.utf8.text c.if-starts_with.ensures.cases) c.in_ok-line.ensures.ok
