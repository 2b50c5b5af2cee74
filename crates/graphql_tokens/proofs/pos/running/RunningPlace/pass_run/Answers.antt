use Rattle.std.proofs.Common.{refl}
use Rattle.graphql_tokens.proofs.Runs.{runs_on}
use Rattle.graphql_tokens.proofs.pos.running.RunningPlace.pass_run.Goals as goal

pub returns-clause-running : goal.returns-clause-running
returns-clause-running c =
    let e = c.pass_run.ensures in
    runs_on c.args.len c.args.self.now _ c.requires.running e.same e.passed refl refl c.requires.within c.requires.ascii
