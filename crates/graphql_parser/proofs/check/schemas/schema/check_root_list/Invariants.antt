use Rattle.std.proofs.Common.{length}
use Rattle.graphql_parser.specs.SchemaRules.{roots_of}
use Rattle.graphql_parser.specs.Checked.{Calm}
use Rattle.graphql_parser.proofs.Sums.{KeptSum}
use Rattle.graphql_schemas.specs.reading.Schema.{root_first, root_at}
use Rattle.graphql_parser.proofs.check.schemas.schema.check_root_list.Given as goal

abbrev pub invariant-loop-roots : goal.invariant-loop-roots
invariant-loop-roots l = KeptSum roots_of root_first root_at l.fn.parser l.parser l.roots × Calm l.fn.parser l.parser

abbrev pub decreases-loop-roots : goal.decreases-loop-roots
decreases-loop-roots l = length l.parser.after
