use Rattle.std.proofs.Common.{refl}
use Rattle.graphql_tokens.proofs.Running.{runs_at_start}
use Rattle.graphql_tokens.proofs.pos.running.RunningPlace.new.Goals as goal

pub returns-clause-running : goal.returns-clause-running
returns-clause-running c = runs_at_start _ c.new.ensures.walking c.new.ensures.start refl refl
