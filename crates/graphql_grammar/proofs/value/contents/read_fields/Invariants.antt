use Rattle.std.proofs.Common.{length, map}
use denote.Param.{param}
use Rattle.graphql_reading.specs.reading.Ahead.{tokens}
use Rattle.graphql_reading.specs.reading.Funds.{SparesGiven}
use Rattle.graphql_grammar.specs.reading.OpenFunds.{object_credit}
use Rattle.graphql_grammar.specs.reading.OpenValues.{field_tree, object_rest}
use Rattle.graphql_grammar.proofs.ValueContents.{HeldSoFar}
use Rattle.graphql_grammar.proofs.value.contents.read_fields.Given as goal

abbrev pub invariant-loop-parser : goal.invariant-loop-parser
invariant-loop-parser g l = HeldSoFar (object_rest g.V.Literal.VARIABLES l.left) l.fn.parser l.parser (map (field_tree g.V.Literal.tree) l.fn.fields.items) (map (field_tree g.V.Literal.tree) l.fields.items)
    × SparesGiven (object_credit (param 1 g.row.V) l.fn.fields) (object_credit (param 1 g.row.V) l.fields) l.fn.parser l.parser

abbrev pub decreases-loop-parser : goal.decreases-loop-parser
decreases-loop-parser g l = length (tokens l.parser)
