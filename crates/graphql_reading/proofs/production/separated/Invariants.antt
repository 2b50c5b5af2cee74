use Rattle.std.proofs.Common.{◌+◌, ◌-◌, ◌*◌, vec_len, length}
use Rattle.graphql_memory.specs.Memory.{price, credit}
use Rattle.graphql_reading.specs.reading.Funds.{Spares}
use Rattle.graphql_reading.specs.reading.Given.{trees_in}
use Rattle.graphql_reading.specs.reading.Spelled.{punct_of}
use Rattle.graphql_reading.proofs.SeparatedLoop.{KeptMembers}
use Rattle.graphql_reading.proofs.production.separated.Given as goal

abbrev pub invariant-loop-nodes : goal.invariant-loop-nodes
invariant-loop-nodes g l = KeptMembers (punct_of l.mark) (g.P.Production.reader l.limits) l.fn.parser l.parser (trees_in g.P.Production.tree l.nodes)
    × Spares (credit g.row.P-Node l.nodes + (g.P.Production.spare - price g.row.P-Node) * vec_len l.nodes) l.fn.parser l.parser

abbrev pub decreases-loop-nodes : goal.decreases-loop-nodes
decreases-loop-nodes g l = length l.parser.after
