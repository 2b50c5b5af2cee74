use Rattle.graphql_grammar.proofs.ArgumentProductions.{takes-argument}
use Rattle.graphql_grammar.proofs.arguments.read_arguments.Goals as goal

pub maybe_bracketed-requires-clause-takes : goal.maybe_bracketed-requires-clause-takes
maybe_bracketed-requires-clause-takes g c = takes-argument g.V.Literal.VARIABLES c.args.limits.values
