use Rattle.std.proofs.Common.{ap, ◌∙◌}
use Rattle.graphql_tokens.specs.inner.Reading.{skip}
use Rattle.graphql_tokens.proofs.Runs.{blank_run}
use Rattle.graphql_tokens.proofs.lexer.reading.pass_indent.Goals as goal

pub returns-then-has-clause-skipped : goal.returns-then-has-clause-skipped
returns-then-has-clause-skipped c = ap skip c.pass_class.ensures.rest ∙ blank_run _
