use Rattle.std.proofs.Common.{rules}
use Rattle.graphql_json.proofs.ReadBack.{reads_back}
use Rattle.graphql_json.proofs.error_json.Goals as goal

pub returns-clause-reads_back : goal.returns-clause-reads_back
returns-clause-reads_back c = reads_back _ _ (search rules)
