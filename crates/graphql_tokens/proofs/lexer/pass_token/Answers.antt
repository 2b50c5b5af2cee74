use Rattle.std.proofs.Common.{sym, ap, ◌∙◌, arith}
use Rattle.graphql_tokens.proofs.Ahead.{next_end, next_name, next_punct}
use Rattle.graphql_tokens.proofs.Runs.{name_inner}
use Rattle.graphql_tokens.proofs.lexer.pass_token.Goals as goal

pub pass_class-requires-clause-within : goal.pass_class-requires-clause-within
pass_class-requires-clause-within c = name_inner

pub returns-in_default : goal.returns-in_default
returns-in_default c = record { runs = c.requires; kind = ap (λ t. t.0) (next_end _ c.in_default.ensures); rest = λ l. absurd (cc); forward = omega arith }

pub returns-then-has : goal.returns-then-has
returns-then-has c =
    let p = c.pass_ascii.ensures.passed in
    let is = next_name c.in-Some.b p.0 _ _ c.in-Some.ensures p.1 (sym c.has.ensures ∙ c.if-has.true) in
    let more = c.pass_class.ensures in
    record { runs = more.runs; kind = ap (λ t. t.0) is; rest = λ l. ap (λ t. t.1) is ∙ sym more.rest; forward = omega arith }

pub returns-then-has-2 : goal.returns-then-has-2
returns-then-has-2 c =
    let e = c.pass_ascii-then-has-2.ensures in
    let is = next_punct c.in-Some.b e.passed.0 _ _ c.in-Some.ensures e.passed.1 (sym c.has-2.ensures ∙ c.if-has-2.true) in
    record { runs = record { running = e.running; same = e.same ∙ c.requires.same }; kind = ap (λ t. t.0) is; rest = λ l. ap (λ t. t.1) is; forward = omega arith }
