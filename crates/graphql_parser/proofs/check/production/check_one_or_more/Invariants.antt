use Rattle.std.proofs.Common.{length}
use Rattle.graphql_reading.specs.reading.Outcome.{plus_at}
use Rattle.graphql_parser.specs.Checked.{Calm}
use Rattle.graphql_parser.proofs.Loops.{Kept}
use Rattle.graphql_parser.proofs.check.production.check_one_or_more.Given as goal

abbrev pub invariant-loop-parser : goal.invariant-loop-parser
invariant-loop-parser g l = Kept (plus_at g.P.Phrase.first (g.P.Phrase.reader l.limits)) l.fn.parser l.parser × Calm l.fn.parser l.parser

abbrev pub decreases-loop-parser : goal.decreases-loop-parser
decreases-loop-parser g l = length l.parser.after
