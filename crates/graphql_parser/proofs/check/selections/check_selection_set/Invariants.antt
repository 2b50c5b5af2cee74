use Rattle.std.proofs.Common.{length}
use Rattle.graphql_reading.specs.reading.Funds.{Spares}
use Rattle.graphql_reading.specs.reading.Worth.{per_token}
use Rattle.graphql_parser.specs.Checked.{Calm}
use Rattle.graphql_parser.proofs.OpenSets.{Kept}
use Rattle.graphql_parser.proofs.check.selections.check_selection_set.Given as goal

abbrev pub invariant-loop-parser : goal.invariant-loop-parser
invariant-loop-parser l = Kept l.fn.limits.values l.fn.limits.selections l.fn.parser l.parser l.outer l.is_wanted × Calm l.fn.parser l.parser × Spares per_token l.fn.parser l.parser

abbrev pub decreases-loop-parser : goal.decreases-loop-parser
decreases-loop-parser l = length l.parser.after
