use Rattle.std.proofs.Common.{false}
use Rattle.graphql_grammar.proofs.ArgumentProductions.{takes-directive}
use Rattle.graphql_parser.proofs.check.arguments.check_const_directives.Goals as goal

pub check_any_number-requires : goal.check_any_number-requires
check_any_number-requires c = takes-directive false c.args.limits.values
