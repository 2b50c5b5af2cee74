use Rattle.std.proofs.Common.{length, map}
use Rattle.graphql_memory.specs.Memory.{credit}
use Rattle.graphql_reading.specs.reading.Ahead.{tokens}
use Rattle.graphql_reading.specs.reading.Funds.{SparesGiven}
use Rattle.graphql_grammar.specs.reading.OpenValues.{list_rest}
use Rattle.graphql_grammar.proofs.ValueContents.{HeldSoFar}
use Rattle.graphql_grammar.proofs.value.contents.read_items.Given as goal

abbrev pub invariant-loop-parser : goal.invariant-loop-parser
invariant-loop-parser g l = HeldSoFar (list_rest g.V.Literal.VARIABLES l.left) l.fn.parser l.parser (map g.V.Literal.tree l.fn.items.items) (map g.V.Literal.tree l.items.items)
    × SparesGiven (credit g.row.V l.fn.items) (credit g.row.V l.items) l.fn.parser l.parser

abbrev pub decreases-loop-parser : goal.decreases-loop-parser
decreases-loop-parser g l = length (tokens l.parser)
