use Rattle.std.proofs.Common.{pred, length}
use Rattle.graphql_grammar.specs.reading.OpenValues.{open_rest}
use Rattle.graphql_parser.specs.Levels.{opens}
use Rattle.graphql_parser.specs.Checked.{Calm}
use Rattle.graphql_parser.proofs.Open.{Kept}
use Rattle.graphql_parser.proofs.check.value.check_open.Given as goal

abbrev pub invariant-loop-object : goal.invariant-loop-object
invariant-loop-object l = Kept l.vars l.levels.limit (open_rest l.vars (pred l.limit) (opens l.first)) l.fn.parser l.parser l.levels.objects.items × Calm l.fn.parser l.parser

abbrev pub decreases-loop-object : goal.decreases-loop-object
decreases-loop-object l = length l.parser.after
