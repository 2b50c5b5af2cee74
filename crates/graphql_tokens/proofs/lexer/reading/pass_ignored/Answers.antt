use Rattle.std.proofs.Common.{◌≡◌, false, length, drop, refl, sym, ap, ◌∙◌, arith}
use Rattle.graphql_tokens.specs.tokens.Classes.{is_ignored}
use Rattle.graphql_tokens.specs.inner.ByteClasses.{begins_mark}
use Rattle.graphql_tokens.specs.inner.Reading.{skip}
use Rattle.graphql_tokens.proofs.Ahead.{first_some, skip_blank, skip_end, skip_nothing, blank_else, skip_hash, hash_shorter}
use Rattle.graphql_tokens.proofs.Lines.{wide_kept}
use Rattle.graphql_tokens.proofs.Running.{some_ahead}
use Rattle.graphql_tokens.proofs.Skips.{skip_goes}
use Rattle.graphql_tokens.proofs.lexer.reading.pass_ignored.Goals as goal

pub loop-b-preserved-then-b-eq32 : goal.loop-b-preserved-then-b-eq32
loop-b-preserved-then-b-eq32 c =
    let v = c.loop-b.invariant in
    let e = c.pass_ascii.ensures in
    record {
      runs = record { running = e.running; same = e.same ∙ v.runs.same };
      same = skip_blank c.in-Some.b e.passed.0 _ _ c.in-Some.ensures e.passed.1 (ap is_ignored c.if-b-eq32.true) ∙ v.same;
      forward = omega arith;
    }

pub loop-b-preserved-then-b-eq10 : goal.loop-b-preserved-then-b-eq10
loop-b-preserved-then-b-eq10 c =
    let v = c.loop-b.invariant in
    let e = c.pass_line_end.ensures in
    let i = c.pass_indent.ensures in
    record {
      runs = i.runs;
      same = i.skipped ∙ sym (ap skip e.passed ∙ skip_goes 10 _ refl) ∙ v.same;
      forward = omega arith;
    }

pub loop-b-preserved-then-b-eq13 : goal.loop-b-preserved-then-b-eq13
loop-b-preserved-then-b-eq13 c =
    let v = c.loop-b.invariant in
    let e = c.pass_line_end-then-b-eq13.ensures in
    record {
      runs = record { running = e.running; same = e.same ∙ v.runs.same };
      same = sym (ap skip e.passed ∙ skip_goes 13 _ refl) ∙ v.same;
      forward = omega arith;
    }

pub loop-b-preserved-then-b-lt128 : goal.loop-b-preserved-then-b-lt128
loop-b-preserved-then-b-lt128 c =
    let v = c.loop-b.invariant in
    let e = c.pass_ascii-then-b-lt128.ensures in
    let blank = blank_else c.in-Some.b c.if-b-lt128.true c.if-b-eq35.false (sym c.has.ensures ∙ c.if-has.false) in
    record {
      runs = record { running = e.running; same = e.same ∙ v.runs.same };
      same = skip_blank c.in-Some.b e.passed.0 _ _ c.in-Some.ensures e.passed.1 blank ∙ v.same;
      forward = omega arith;
    }

pub loop-b-preserved-then-b-eq35 : goal.loop-b-preserved-then-b-eq35
loop-b-preserved-then-b-eq35 c =
    let v = c.loop-b.invariant in
    let e = c.pass_comment.ensures in
    record {
      runs = e.runs;
      same = ap skip e.rest ∙ skip_hash c.in-Some.b _ c.in-Some.ensures c.if-b-eq35.true ∙ v.same;
      forward = omega arith;
    }

pub is_mark-requires : goal.is_mark-requires
is_mark-requires c =
    let v = c.loop-b.invariant in
    omega (arith, c.offset.ensures, ap length v.runs.same, some_ahead c.loop-b.places (first_some c.in-Some.b _ c.in-Some.ensures))

pub loop-b-preserved : goal.loop-b-preserved
loop-b-preserved c =
    let v = c.loop-b.invariant in
    let e = c.pass_mark.ensures in
    record {
      runs = record { running = e.running; same = e.same ∙ v.runs.same };
      same = sym (ap skip e.passed ∙ skip_goes 0xFEFF _ refl) ∙ v.same;
      forward = omega arith;
    }

pub returns-then-has-clause-rest : goal.returns-then-has-clause-rest
returns-then-has-clause-rest c = skip_end c.in-Some.b _ c.in-Some.ensures (sym c.has.ensures ∙ c.if-has.true) ∙ c.loop-b.invariant.same

pub returns-else-is_mark-clause-rest : goal.returns-else-is_mark-clause-rest
returns-else-is_mark-clause-rest c =
    let v = c.loop-b.invariant in
    let a = c.loop-b.places in
    let none : begins_mark (drop a.walk.offset a.walk.text.now) ≡ false =
    ap (λ bs. begins_mark (drop a.walk.offset bs)) v.runs.same ∙ ap (λ i. begins_mark (drop i c.args.bytes.now)) (sym c.offset.ensures) ∙ sym c.is_mark.ensures ∙ c.if-is_mark.false in
    wide_kept c.in-Some.b a v.runs.running c.in-Some.ensures (omega (arith, c.if-b-lt128.false)) none ∙ v.same

pub returns-in_default-clause-rest : goal.returns-in_default-clause-rest
returns-in_default-clause-rest c = skip_nothing _ c.in_default.ensures ∙ c.loop-b.invariant.same

pub loop-b-smaller-then-b-eq35 : goal.loop-b-smaller-then-b-eq35
loop-b-smaller-then-b-eq35 c = omega (arith, ap length c.pass_comment.ensures.rest, hash_shorter c.in-Some.b _ c.in-Some.ensures c.if-b-eq35.true)
