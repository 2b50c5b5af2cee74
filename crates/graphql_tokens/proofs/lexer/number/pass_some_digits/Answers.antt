use Rattle.graphql_tokens.proofs.Runs.{digit_inner}
use Rattle.graphql_tokens.proofs.lexer.number.pass_some_digits.Goals as goal

pub pass_class-requires-clause-within : goal.pass_class-requires-clause-within
pass_class-requires-clause-within c = digit_inner
