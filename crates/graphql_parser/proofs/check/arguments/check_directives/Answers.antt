use Rattle.std.proofs.Common.{true}
use Rattle.graphql_grammar.proofs.ArgumentProductions.{takes-directive}
use Rattle.graphql_parser.proofs.check.arguments.check_directives.Goals as goal

pub check_any_number-requires : goal.check_any_number-requires
check_any_number-requires c = takes-directive true c.args.limits.values
