use Rattle.std.proofs.Common.{◌≡◌, ℕ, true, false, refl, subst, arith}
use Rattle.std.proofs.lemmas.Bool.Decides.{nat_tests}
use Rattle.std.proofs.lemmas.Str.{len_utf8_ascii}
use Rattle.graphql_tokens.specs.tokens.Place.{is_line_feed, is_in_line}
use Rattle.graphql_tokens.specs.inner.Running.{BeginsInAscii}
use Rattle.graphql_tokens.proofs.FirstBytes.{ascii_ahead, some_ascii}
use Rattle.graphql_tokens.proofs.Running.{some_ahead, ahead_past, runs_in_line}
use Rattle.graphql_tokens.proofs.pos.running.RunningPlace.pass_ascii.Goals as goal

pub pass_ascii-requires-clause-more : goal.pass_ascii-requires-clause-more
pass_ascii-requires-clause-more c = some_ahead c.args.self.now (some_ascii _ c.requires.ascii)

pub pass_ascii-requires-clause-ascii : goal.pass_ascii-requires-clause-ascii
pass_ascii-requires-clause-ascii c = ascii_ahead c.args.self.now c.requires.running c.requires.ascii

no_feed : (c : ℕ) → is_in_line c ≡ true → is_line_feed c ≡ false
no_feed c h = grind (arith, nat_tests)

pub returns-clause-running : goal.returns-clause-running
returns-clause-running c =
    let e = c.pass_ascii.ensures in
    let i = (subst BeginsInAscii (ahead_past c.args.self.now.walk c.pass_ascii.new.self _ c.requires.running.reading e.same e.passes) c.requires.ascii).1 in
    runs_in_line c.args.self.now _ _ c.requires.running e.walking e.same e.passes i (no_feed _ i) refl (omega (arith, e.passes.after, len_utf8_ascii _ (ascii_ahead c.args.self.now c.requires.running c.requires.ascii)))

pub returns-clause-passed : goal.returns-clause-passed
returns-clause-passed c = (_, ahead_past c.args.self.now.walk c.pass_ascii.new.self _ c.requires.running.reading c.pass_ascii.ensures.same c.pass_ascii.ensures.passes)
