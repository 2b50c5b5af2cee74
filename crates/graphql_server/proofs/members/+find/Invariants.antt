use Rattle.std.proofs.Common.{length}
use Rattle.graphql_server.proofs.members.+find.Given as goal

abbrev pub decreases-find : goal.decreases-find
decreases-find l = length l.path.now
