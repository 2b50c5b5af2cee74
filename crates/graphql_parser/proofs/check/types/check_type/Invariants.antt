use Rattle.std.proofs.Common.{◌-◌}
use Rattle.graphql_syntax.specs.trees.TypeTree.{TypeTree}
use Rattle.graphql_grammar.specs.reading.Types.{type_at}
use Rattle.graphql_grammar.proofs.TypeSteps.{Becomes, closing_at}
use Rattle.graphql_parser.specs.Checked.{Calm}
use Rattle.graphql_parser.proofs.check.types.check_type.Given as goal

-- the inmost is of some type, which isn't kept
abbrev pub invariant-loop : goal.invariant-loop
invariant-loop l = (item : TypeTree) × Becomes (type_at l.fn.limits.types) l.fn.parser (closing_at l.fn.parser.hand (l.opened - l.counter) item) l.parser × Calm l.fn.parser l.parser
