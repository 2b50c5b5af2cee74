use Rattle.std.proofs.Common.{ap, ◌∙◌}
use Rattle.graphql_tokens.specs.inner.Quoted.{past_string, past_block}
use Rattle.graphql_tokens.specs.inner.Running.{ahead}
use Rattle.graphql_tokens.proofs.Runs.{plain_inner, string_run, block_run}
use Rattle.graphql_tokens.proofs.lexer.quoted.pass_plain_ascii.Goals as goal

pub pass_class-requires-clause-within : goal.pass_class-requires-clause-within
pass_class-requires-clause-within c = plain_inner

pub returns-clause-string : goal.returns-clause-string
returns-clause-string c = ap past_string c.pass_class.ensures.rest ∙ string_run (ahead c.args.places.now)

pub returns-clause-block : goal.returns-clause-block
returns-clause-block c = ap past_block c.pass_class.ensures.rest ∙ block_run (ahead c.args.places.now)
