use Rattle.std.proofs.Common.{◌+◌, ◌-◌, length}
use denote.Param.{param}
use Rattle.graphql_memory.specs.Memory.{small_credit}
use Rattle.graphql_reading.specs.reading.Ahead.{tokens}
use Rattle.graphql_reading.specs.reading.Funds.{Spares}
use Rattle.graphql_reading.specs.reading.Worth.{per_token}
use Rattle.graphql_grammar.specs.reading.OpenFunds.{open_credit, frames_credit}
use Rattle.graphql_grammar.specs.contracts.value.frames.Frame.{the_row}
use Rattle.graphql_grammar.specs.reading.OpenValues.{node_at}
use Rattle.graphql_grammar.specs.reading.Values.{value_at}
use Rattle.graphql_grammar.proofs.ValueLoop.{Kept}
use Rattle.graphql_grammar.proofs.value.read_value.Given as goal

abbrev pub invariant-loop-innermost : goal.invariant-loop-innermost
invariant-loop-innermost g l = Kept g.V.Literal.tree g.V.Literal.VARIABLES l.fn.limits.values (node_at (value_at g.V.Literal.VARIABLES l.fn.limits.values)) l.fn.parser l.parser l.outer.items l.innermost
    × Spares (per_token - 24 + open_credit (param 0 g.row.V) l.innermost + frames_credit (param 0 g.row.V) l.outer.items + small_credit 2 (the_row (param 0 g.row.V)) l.outer) l.fn.parser l.parser

abbrev pub decreases-loop-innermost : goal.decreases-loop-innermost
decreases-loop-innermost g l = length (tokens l.parser)
