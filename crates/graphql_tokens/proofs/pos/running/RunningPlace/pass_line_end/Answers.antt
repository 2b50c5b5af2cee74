use Rattle.std.proofs.Common.{not, sym, ap, ◌∙◌, arith}
use Rattle.graphql_tokens.specs.inner.TextWalk.{Passes}
use Rattle.graphql_tokens.proofs.FirstBytes.{first_ahead}
use Rattle.graphql_tokens.proofs.BlockLines.{end_low}
use Rattle.graphql_tokens.proofs.Running.{some_ahead, ahead_past, runs_anew, running_bound}
use Rattle.graphql_tokens.proofs.pos.running.RunningPlace.pass_line_end.Goals as goal

pub pass_ascii-requires-clause-more : goal.pass_ascii-requires-clause-more
pass_ascii-requires-clause-more c = some_ahead c.args.self.now (first_ahead c.args.b c.args.self.now c.requires.running c.requires.first (end_low c.args.b (ap not c.requires.ends))).0

pub pass_ascii-requires-clause-ascii : goal.pass_ascii-requires-clause-ascii
pass_ascii-requires-clause-ascii c =
    let low = end_low c.args.b (ap not c.requires.ends) in
    omega (arith, low, (first_ahead c.args.b c.args.self.now c.requires.running c.requires.first low).1)

pub begin_columns-requires : goal.begin_columns-requires
begin_columns-requires c = omega (arith, running_bound c.args.self.now c.requires.running)

passes : (c : goal.After-begin_columns) → Passes c.args.b c.args.self.now.walk c.begin_columns.new.self.walk
passes c =
    let same = (first_ahead c.args.b c.args.self.now c.requires.running c.requires.first (end_low c.args.b (ap not c.requires.ends))).1 in
    rw (ap (λ a. a.walk) c.begin_columns.ensures, ← same) c.pass_ascii.ensures.passes

pub returns-clause-running : goal.returns-clause-running
returns-clause-running c =
    let e = c.begin_columns.ensures in
    let walk = ap (λ a. a.walk) e in
    runs_anew c.args.self.now c.begin_columns.new.self c.args.b c.requires.running (rw walk c.pass_ascii.ensures.walking) (ap (λ w. w.text.now) walk ∙ c.pass_ascii.ensures.same) (passes c)
    (ap not c.requires.ends) (ap (λ a. a.line) e) (ap (λ a. a.origin) e ∙ ap (λ w. w.offset) (sym walk))

pub returns-clause-passed : goal.returns-clause-passed
returns-clause-passed c =
    let walk = ap (λ a. a.walk) c.begin_columns.ensures in
    ahead_past c.args.self.now.walk c.begin_columns.new.self.walk c.args.b c.requires.running.reading (ap (λ w. w.text.now) walk ∙ c.pass_ascii.ensures.same) (passes c)
