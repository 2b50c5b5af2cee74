use Rattle.std.proofs.Common.{false}
use Rattle.graphql_grammar.proofs.ArgumentProductions.{takes-directive}
use Rattle.graphql_grammar.proofs.arguments.read_const_directives.Goals as goal

pub any_number-requires-clause-takes : goal.any_number-requires-clause-takes
any_number-requires-clause-takes c = takes-directive false c.args.limits.values
