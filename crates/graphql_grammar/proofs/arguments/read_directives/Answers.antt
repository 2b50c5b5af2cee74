use Rattle.std.proofs.Common.{true}
use Rattle.graphql_grammar.proofs.ArgumentProductions.{takes-directive}
use Rattle.graphql_grammar.proofs.arguments.read_directives.Goals as goal

pub any_number-requires-clause-takes : goal.any_number-requires-clause-takes
any_number-requires-clause-takes c = takes-directive true c.args.limits.values
