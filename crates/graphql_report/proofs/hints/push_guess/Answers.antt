use Rattle.std.specs.String.{string_bytes}
use Rattle.graphql_tokens.specs.tokens.Seen.{seen}
use Rattle.graphql_report.specs.inner.Called.{texts}
use Rattle.graphql_report.proofs.Hinted.{next-guess, meant-result}
use Rattle.graphql_report.proofs.hints.push_guess.Goals as goal

pub loop-name-preserved : goal.loop-name-preserved
loop-name-preserved c = next-guess c.args.expected.now c.loop-name.name-index _ c.loop-name.best.word.now c.in_ok-best.best.word.now c.loop-name-test.true c.loop-name.invariant c.in_ok-best.ensures

pub returns : goal.returns
returns c = meant-result c.push_meant.result c.args.language (seen c.args.token.now).bare (texts c.args.expected.now) c.loop-name.best.word.now (string_bytes c.args.out.now) (string_bytes c.push_meant.new.out) c.push_meant.ensures c.loop-name.invariant
