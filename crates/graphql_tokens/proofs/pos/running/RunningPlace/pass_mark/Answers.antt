use Rattle.std.proofs.Common.{◌+◌, refl}
use Rattle.graphql_tokens.specs.declared.pos.running.RunningPlace.{RunningPlace}
use Rattle.graphql_tokens.proofs.Lines.{runs_past_mark}
use Rattle.graphql_tokens.proofs.pos.running.RunningPlace.pass_mark.Goals as goal

pub returns-clause-running : goal.returns-clause-running
returns-clause-running c = (runs_past_mark c.args.self.now _ c.requires.running c.pass_run.ensures.same c.requires.mark c.pass_run.ensures.passed refl refl).0

pub returns-clause-passed : goal.returns-clause-passed
returns-clause-passed c =
    let old = c.args.self.now in
    let new : RunningPlace = record { walk = c.pass_run.new.self; line = old.line; origin = old.origin + 2 } in
    (runs_past_mark old new c.requires.running c.pass_run.ensures.same c.requires.mark c.pass_run.ensures.passed refl refl).1
