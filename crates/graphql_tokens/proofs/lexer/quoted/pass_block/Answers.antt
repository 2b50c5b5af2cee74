use Rattle.std.proofs.Common.{◌≡◌, ◌∷◌, ◌<◌, refl, sym, ap, ◌∙◌, arith}
use Rattle.graphql_tokens.specs.inner.Quoted.{past_block}
use Rattle.graphql_tokens.specs.inner.Running.{ahead}
use Rattle.graphql_tokens.proofs.Ahead.{first_low, first_not}
use Rattle.graphql_tokens.proofs.BlockTokens.{block_end, block_other, block_few, block_three, block_escape}
use Rattle.graphql_tokens.proofs.QuotedAhead.{ascii_in_block}
use Rattle.graphql_tokens.proofs.lexer.quoted.pass_block.Goals as goal

pub loop-b-preserved-then-has : goal.loop-b-preserved-then-has
loop-b-preserved-then-has c =
    let first = c.pass_ascii.ensures.passed in
    let same = sym (ascii_in_block c.in-Some.b first.0 _ _ c.in-Some.ensures first.1 (sym c.has.ensures ∙ c.if-has.true)) ∙ c.loop-b.invariant.same in
    record { runs = c.pass_plain_ascii.ensures.runs; same = c.pass_plain_ascii.ensures.block ∙ same; forward = omega arith }

pub returns-then-pass_quotes-eq3 : goal.returns-then-pass_quotes-eq3
returns-then-pass_quotes-eq3 c =
    let same = c.loop-b.invariant.same in
    let q = c.pass_quotes.ensures in
    record { runs = q.runs; rest = sym same ∙ block_three c.pass_quotes.result _ _ q.quotes c.if-pass_quotes-eq3.true; forward = omega arith }

pub loop-b-preserved-else-pass_quotes-eq3 : goal.loop-b-preserved-else-pass_quotes-eq3
loop-b-preserved-else-pass_quotes-eq3 c =
    let same = c.loop-b.invariant.same in
    let q = c.pass_quotes.ensures in
    let few : c.pass_quotes.result < 3 = (let most = q.quotes.most in let other = c.if-pass_quotes-eq3.false in omega arith) in
    record { runs = q.runs; same = sym (block_few c.pass_quotes.result _ _ q.quotes few) ∙ same; forward = omega arith }

pub loop-b-preserved-then-b-eq10 : goal.loop-b-preserved-then-b-eq10
loop-b-preserved-then-b-eq10 c =
    let e = c.pass_line_end.ensures in
    record {
      runs = record { running = e.running; same = e.same ∙ c.loop-b.invariant.runs.same };
      same = sym (ap past_block (e.passed ∙ ap (λ d. d ∷ ahead c.pass_line_end.new.self) c.if-b-eq10.true) ∙ block_other 10 (ahead c.pass_line_end.new.self) refl refl) ∙ c.loop-b.invariant.same;
      forward = omega arith;
    }

pub loop-b-preserved-then-b-eq92 : goal.loop-b-preserved-then-b-eq92
loop-b-preserved-then-b-eq92 c =
    let same = c.loop-b.invariant.same in
    let e = c.pass_first.ensures in
    let q = c.pass_quotes-then-b-eq92.ensures in
    let is : c.pass_first.result ≡ 92 = first_low c.in-Some.b c.pass_first.result _ _ c.in-Some.ensures e.passed (omega arith) ∙ c.if-b-eq92.true in
    record {
      runs = q.runs;
      same = sym (ap past_block (e.passed ∙ ap (λ d. d ∷ ahead c.pass_first.new.self) is) ∙ block_escape c.pass_quotes-then-b-eq92.result _ _ q.quotes) ∙ same;
      forward = omega arith;
    }

pub loop-b-preserved : goal.loop-b-preserved
loop-b-preserved c =
    let e = c.pass_first.ensures in
    let p = first_not c.in-Some.b c.pass_first.result 34 _ _ c.in-Some.ensures e.passed (omega arith) c.if-b-eq34.false in
    let q = first_not c.in-Some.b c.pass_first.result 92 _ _ c.in-Some.ensures e.passed (omega arith) c.if-b-eq92.false in
    record {
      runs = record { running = e.running; same = e.same ∙ c.loop-b.invariant.runs.same };
      same = sym (ap past_block e.passed ∙ block_other c.pass_first.result (ahead c.pass_first.new.self) p q) ∙ c.loop-b.invariant.same;
      forward = omega arith;
    }

pub returns : goal.returns
returns c =
    let same = c.loop-b.invariant.same in
    record { runs = c.loop-b.invariant.runs; rest = sym same ∙ block_end _ c.in_default.ensures; forward = omega arith }
