use Rattle.std.proofs.Common.{◌<◌, ◌+◌, ap, get_or, refl}
use Rattle.graphql_tokens.proofs.Running.{walks_past, passes_ascii, passes_wide}
use Rattle.graphql_tokens.proofs.pos.text_walk.TextWalk.pass.Goals as goal

pub returns-then-first-lt128-clause-walking : goal.returns-then-first-lt128-clause-walking
returns-then-first-lt128-clause-walking c =
    let low : get_or c.args.self.now.text.now c.args.self.now.offset 0 < 128 = rw c.as_bytes.ensures.value at c.if-first-lt128.true in
    walks_past c.args.self.now _ _ c.requires.walking refl (passes_ascii c.args.self.now _ c.requires.more low refl)

pub returns-clause-walking : goal.returns-clause-walking
returns-clause-walking c =
    walks_past c.args.self.now _ _ c.requires.walking refl
    (passes_wide c.args.self.now _ c.char_at-c.result c.char_at-c.ensures.0 c.char_at-c.ensures.1 (ap (λ n. c.args.self.now.offset + n) c.len_utf8.ensures.value))

pub returns-clause-passes : goal.returns-clause-passes
returns-clause-passes c =
    passes_wide c.args.self.now _ c.char_at-c.result c.char_at-c.ensures.0 c.char_at-c.ensures.1 (ap (λ n. c.args.self.now.offset + n) c.len_utf8.ensures.value)
