use Rattle.std.proofs.Common.{◌≡◌, ◌-◌, ◌≤◌, length}
use Rattle.graphql_reading.specs.reading.Funds.{Spares}
use Rattle.graphql_grammar.specs.reading.TypeSteps.{opens_at}
use Rattle.graphql_grammar.proofs.TypeSteps.{Becomes}
use Rattle.graphql_grammar.proofs.types.open_lists.Given as goal

abbrev pub invariant-loop-limit : goal.invariant-loop-limit
invariant-loop-limit l =
    Becomes (opens_at 0 l.fn.limits.types) l.fn.parser (opens_at l.opened (l.fn.limits.types - l.opened)) l.parser
    × (l.opened ≤ l.fn.limits.types) × Spares 0 l.fn.parser l.parser × (l.parser.memory ≡ l.fn.parser.memory)

abbrev pub decreases-loop-limit : goal.decreases-loop-limit
decreases-loop-limit l = length l.parser.after
