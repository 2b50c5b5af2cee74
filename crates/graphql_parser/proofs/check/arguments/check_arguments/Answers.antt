use Rattle.graphql_grammar.proofs.ArgumentProductions.{takes-argument}
use Rattle.graphql_parser.proofs.check.arguments.check_arguments.Goals as goal

pub check_one_or_more-requires : goal.check_one_or_more-requires
check_one_or_more-requires g c = takes-argument _ c.args.limits.values
