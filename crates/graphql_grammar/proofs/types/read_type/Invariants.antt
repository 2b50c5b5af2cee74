use Rattle.std.proofs.Common.{◌-◌}
use Rattle.graphql_syntax.specs.trees.TypeTree.{type_tree}
use Rattle.graphql_reading.specs.reading.Funds.{Spares}
use Rattle.graphql_reading.specs.reading.Worth.{per_token}
use Rattle.graphql_grammar.specs.reading.Types.{type_at}
use Rattle.graphql_grammar.proofs.TypeSteps.{Becomes, closing_at}
use Rattle.graphql_grammar.proofs.types.read_type.Given as goal

abbrev pub invariant-loop : goal.invariant-loop
invariant-loop l = Becomes (type_at l.fn.limits.types) l.fn.parser (closing_at l.fn.parser.hand (l.opened - l.counter) (type_tree l.ty)) l.parser × Spares (per_token - 24) l.fn.parser l.parser
