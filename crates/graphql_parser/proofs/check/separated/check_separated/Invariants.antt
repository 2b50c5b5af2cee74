use Rattle.std.proofs.Common.{length}
use Rattle.graphql_reading.specs.reading.Spelled.{punct_of}
use Rattle.graphql_parser.specs.Checked.{Calm}
use Rattle.graphql_parser.proofs.SeparatedLoop.{KeptSome}
use Rattle.graphql_parser.proofs.check.separated.check_separated.Given as goal

abbrev pub invariant-loop-parser : goal.invariant-loop-parser
invariant-loop-parser g l = KeptSome (punct_of l.mark) (g.P.Phrase.reader l.limits) l.fn.parser l.parser × Calm l.fn.parser l.parser

abbrev pub decreases-loop-parser : goal.decreases-loop-parser
decreases-loop-parser g l = length l.parser.after
