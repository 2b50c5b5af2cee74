use Rattle.std.proofs.Common.{ap}
use Rattle.graphql_tokens.specs.tokens.Kinds.{is_number}
use Rattle.graphql_grammar.proofs.SimpleValues.{number-here}
use Rattle.graphql_grammar.proofs.value.simple.read_simple.Goals as goal

pub number-requires-clause-number : goal.number-requires-clause-number
number-requires-clause-number g c = number-here c.hand-token.result c.args.parser.now.hand c.hand-token.ensures.token (ap is_number c.in-Number.is) c.hand-token.ensures.proper
