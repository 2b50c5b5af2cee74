use Rattle.std.proofs.Common.{◌∙◌}
use Rattle.std.specs.Str.{bytes_eq}
use Rattle.graphql_report.proofs.WordLists.{any-of-texts}
use Rattle.graphql_report.proofs.hints.expects.Goals as goal

pub returns : goal.returns
returns c = c.contains.ensures.value ∙ any-of-texts (λ other. bytes_eq other c.args.name.now) c.args.expected.now
