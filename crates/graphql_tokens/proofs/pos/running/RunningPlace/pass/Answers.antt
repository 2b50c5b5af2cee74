use Rattle.std.proofs.Common.{◌≡◌, ◌+◌, true, false, cond, refl, arith}
use Rattle.std.proofs.lemmas.Bool.Decides.{nat_tests}
use Rattle.std.proofs.lemmas.Str.{len_utf8_bounds}
use Rattle.graphql_tokens.specs.tokens.Place.{is_line_feed, is_in_line}
use Rattle.graphql_tokens.proofs.Running.{some_ahead, ahead_past, one_past, runs_in_line, runs_anew, running_bound}
use Rattle.graphql_tokens.proofs.pos.running.RunningPlace.pass.Goals as goal

pub pass-c-requires-clause-more : goal.pass-c-requires-clause-more
pass-c-requires-clause-more c = some_ahead c.args.self.now c.requires.more

pub overflow_add-self : goal.overflow_add-self
overflow_add-self c = omega (arith, running_bound c.args.self.now c.requires.running)

pub returns-then-c-eq10-clause-running : goal.returns-then-c-eq10-clause-running
returns-then-c-eq10-clause-running c =
    let e = c.pass-c.ensures in
    let i : is_in_line c.pass-c.result ≡ false = rw c.if-c-eq10.true refl in
    let f : c.args.self.now.line + 1 ≡ c.args.self.now.line + cond (is_line_feed c.pass-c.result) 1 0 = rw c.if-c-eq10.true refl in
    runs_anew c.args.self.now _ c.pass-c.result c.requires.running e.walking e.same e.passes i f c.offset-end.ensures

pub returns-then-c-eq13-clause-running : goal.returns-then-c-eq13-clause-running
returns-then-c-eq13-clause-running c =
    let e = c.pass-c.ensures in
    let i : is_in_line c.pass-c.result ≡ false = rw c.if-c-eq13.true refl in
    let f : c.args.self.now.line ≡ c.args.self.now.line + cond (is_line_feed c.pass-c.result) 1 0 = rw c.if-c-eq13.true (omega arith) in
    runs_anew c.args.self.now _ c.pass-c.result c.requires.running e.walking e.same e.passes i f c.offset-end.ensures

pub returns-else-c-eq13-clause-running : goal.returns-else-c-eq13-clause-running
returns-else-c-eq13-clause-running c =
    let e = c.pass-c.ensures in
    let i : is_in_line c.pass-c.result ≡ true = (let x = c.if-c-eq10.false in let y = c.if-c-eq13.false in grind (arith, nat_tests)) in
    let f : is_line_feed c.pass-c.result ≡ false = (let x = c.if-c-eq10.false in grind (arith, nat_tests)) in
    runs_in_line c.args.self.now _ c.pass-c.result c.requires.running e.walking e.same e.passes i f refl
    (omega (arith, e.passes.after, len_utf8_bounds c.pass-c.result, c.offset-start.ensures, c.offset-end.ensures))

pub returns-then-c-eq10-clause-passed : goal.returns-then-c-eq10-clause-passed
returns-then-c-eq10-clause-passed c = ahead_past c.args.self.now.walk c.pass-c.new.self c.pass-c.result c.requires.running.reading c.pass-c.ensures.same c.pass-c.ensures.passes

pub returns-then-c-eq13-clause-passed : goal.returns-then-c-eq13-clause-passed
returns-then-c-eq13-clause-passed c = ahead_past c.args.self.now.walk c.pass-c.new.self c.pass-c.result c.requires.running.reading c.pass-c.ensures.same c.pass-c.ensures.passes

pub returns-else-c-eq13-clause-passed : goal.returns-else-c-eq13-clause-passed
returns-else-c-eq13-clause-passed c = ahead_past c.args.self.now.walk c.pass-c.new.self c.pass-c.result c.requires.running.reading c.pass-c.ensures.same c.pass-c.ensures.passes

pub returns-then-c-eq10-clause-one : goal.returns-then-c-eq10-clause-one
returns-then-c-eq10-clause-one c = one_past c.args.self.now.walk c.pass-c.new.self c.pass-c.result c.requires.running.reading c.pass-c.ensures.passes

pub returns-then-c-eq13-clause-one : goal.returns-then-c-eq13-clause-one
returns-then-c-eq13-clause-one c = one_past c.args.self.now.walk c.pass-c.new.self c.pass-c.result c.requires.running.reading c.pass-c.ensures.passes

pub returns-else-c-eq13-clause-one : goal.returns-else-c-eq13-clause-one
returns-else-c-eq13-clause-one c = one_past c.args.self.now.walk c.pass-c.new.self c.pass-c.result c.requires.running.reading c.pass-c.ensures.passes
