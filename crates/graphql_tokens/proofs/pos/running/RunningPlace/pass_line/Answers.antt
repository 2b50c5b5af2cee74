use Rattle.std.proofs.Common.{◌≡◌, ◌+◌, cond, sym, ap, ◌∙◌, arith}
use Rattle.graphql_tokens.specs.tokens.Place.{is_line_feed}
use Rattle.graphql_tokens.proofs.Lines.{runs_past_line, ahead_past_line}
use Rattle.graphql_tokens.proofs.Running.{running_bound}
use Rattle.graphql_tokens.proofs.pos.running.RunningPlace.pass_line.Goals as goal

pub begin_columns-requires : goal.begin_columns-requires
begin_columns-requires c = omega (arith, running_bound c.args.self.now c.requires.running)

pub returns-clause-running : goal.returns-clause-running
returns-clause-running c =
    let e = c.begin_columns.ensures in
    let q = c.requires in
    let same = ap (λ a. a.walk.text.now) e ∙ c.pass_run.ensures.same in
    let there : c.begin_columns.new.self.walk.offset ≡ c.args.end + 1 = omega (arith, ap (λ a. a.walk.offset) e, c.pass_run.ensures.passed, c.offset.ensures, q.line) in
    runs_past_line c.args.self.now c.begin_columns.new.self c.args.end q.running same there q.line q.within
    (ap (λ a. a.line) e ∙ ap (λ b. c.args.self.now.line + cond (is_line_feed b) 1 0) q.last) (ap (λ a. a.origin) e ∙ sym (ap (λ a. a.walk.offset) e))

pub returns-clause-rest : goal.returns-clause-rest
returns-clause-rest c =
    let e = c.begin_columns.ensures in
    let q = c.requires in
    ahead_past_line c.args.self.now c.begin_columns.new.self c.args.end q.running (ap (λ a. a.walk.text.now) e ∙ c.pass_run.ensures.same)
    (omega (arith, ap (λ a. a.walk.offset) e, c.pass_run.ensures.passed, c.offset.ensures, q.line)) q.line q.within
