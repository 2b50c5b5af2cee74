use Rattle.std.proofs.Common.{◌≡◌, ◌≢◌, ℕ, List, ◌∷◌, cond, ◌||◌, eqb, sym, ap, ◌∙◌, arith}
use Rattle.std.proofs.lemmas.Bool.{ne_eqb}
use Rattle.graphql_tokens.specs.inner.Reading.{past_line}
use Rattle.graphql_tokens.specs.inner.Running.{ahead}
use Rattle.graphql_tokens.proofs.Runs.{line_run}
use Rattle.graphql_tokens.proofs.lexer.reading.pass_last_line.Goals as goal

goes_on : (c : ℕ) (text rest : List ℕ) → text ≡ c ∷ rest → c ≢ 10 → c ≢ 13 → past_line rest ≡ past_line text
goes_on c text rest is f r = sym (ap past_line is ∙ ap (λ b. cond (b || eqb c 13) rest (past_line rest)) (ne_eqb c 10 f) ∙ ap (λ b. cond b rest (past_line rest)) (ne_eqb c 13 r))

pub loop-own-preserved : goal.loop-own-preserved
loop-own-preserved c =
    let e = c.pass_class.ensures in
    record {
      runs = e.runs;
      same = ap past_line e.rest ∙ line_run (ahead c.pass-c.new.self) ∙ goes_on c.pass-c.result _ _ c.pass-c.ensures.passed (λ e. absurd (c.if-c-eq10.false e)) c.if-c-eq13.false ∙ c.loop-own.invariant.same;
      forward = omega arith;
    }
