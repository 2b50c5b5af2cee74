use Rattle.graphql_report.specs.inner.Called.{texts}
use Rattle.graphql_report.proofs.Named.{result-names-all}
use Rattle.graphql_report.proofs.NamedOnly.{result-names-only}
use Rattle.graphql_report.proofs.expected.expected_after.Goals as goal

pub returns-clause-all : goal.returns-clause-all
returns-clause-all c = result-names-all (λ names. texts names.items) c.args.language c.args.limits c.args.front.now c.expected_in.result c.utf8.front c.expected_in.ensures

pub returns-clause-only : goal.returns-clause-only
returns-clause-only c = result-names-only (λ names. texts names.items) c.args.language c.args.limits c.args.front.now c.expected_in.result c.utf8.front c.expected_in.ensures
