use Rattle.std.proofs.Common.{length}
use Rattle.graphql_parser.specs.SchemaRules.{first_breach}
use Rattle.graphql_parser.specs.Checked.{Calm}
use Rattle.graphql_parser.proofs.Sums.{KeptSum}
use Rattle.graphql_schemas.specs.reading.SchemaFile.{definition_first, definition_at}
use Rattle.graphql_parser.proofs.check.schemas.definitions.check_definitions.Given as goal

abbrev pub invariant-loop-first : goal.invariant-loop-first
invariant-loop-first l = KeptSum first_breach definition_first (definition_at l.limits) l.fn.parser l.parser l.first × Calm l.fn.parser l.parser

abbrev pub decreases-loop-first : goal.decreases-loop-first
decreases-loop-first l = length l.parser.after
