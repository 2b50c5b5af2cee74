use Rattle.std.proofs.Common.{sym, ◌∙◌}
use Rattle.std.specs.Prelude.{codes}
use Rattle.std.specs.String.{string_bytes}
use Rattle.graphql_tokens.specs.tokens.Seen.{seen}
use Rattle.graphql_report.specs.inner.Called.{texts}
use Rattle.graphql_report.proofs.Hinted.{expected-meant, meant-result}
use Rattle.graphql_report.proofs.hints.push_hint.Goals as goal

pub returns-then-expects-2 : goal.returns-then-expects-2
returns-then-expects-2 c =
    meant-result c.push_meant.result c.args.language (seen c.args.token.now).bare (texts c.args.expected.now) (codes "implements") (string_bytes c.args.out.now) (string_bytes c.push_meant.new.out) c.push_meant.ensures
    (expected-meant (texts c.args.expected.now) (codes "implements") (sym c.expects-then-means_implements.ensures ∙ c.if-expects-2.true))
