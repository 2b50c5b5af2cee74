use Rattle.std.proofs.Common.{◌≡◌, Some, length, drop, sym, ap, ◌∙◌, arith}
use Rattle.graphql_tokens.specs.inner.Escapes.{escape_at}
use Rattle.graphql_tokens.specs.inner.Quoted.{past_string}
use Rattle.graphql_tokens.specs.inner.Running.{ahead}
use Rattle.graphql_tokens.proofs.StringTokens.{string_end}
use Rattle.graphql_tokens.proofs.QuotedAhead.{escape_ahead, plain_ahead, ascii_in_string, quote_ahead, stuck_ahead, escaped_ahead, escape_shortens}
use Rattle.graphql_tokens.proofs.EscapeRuns.{Escaped, escaped, ahead_past_run}
use Rattle.graphql_tokens.proofs.lexer.quoted.pass_string.Goals as goal

pub loop-b-preserved-then-has : goal.loop-b-preserved-then-has
loop-b-preserved-then-has c =
    let first = c.pass_ascii.ensures.passed in
    let same = sym (ascii_in_string c.in-Some.b first.0 _ _ c.in-Some.ensures first.1 (sym c.has.ensures ∙ c.if-has.true)) ∙ c.loop-b.invariant.same in
    record { runs = c.pass_plain_ascii.ensures.runs; same = c.pass_plain_ascii.ensures.string ∙ same; forward = omega arith }

pub loop-b-preserved-then-has-2 : goal.loop-b-preserved-then-has-2
loop-b-preserved-then-has-2 c =
    let e = c.pass_first.ensures in
    record {
      runs = record { running = e.running; same = e.same ∙ c.loop-b.invariant.runs.same };
      same = sym (plain_ahead c.in-Some.b c.pass_first.result _ _ c.in-Some.ensures e.passed (sym c.has-else-has.ensures ∙ c.if-has-2.true)) ∙ c.loop-b.invariant.same;
      forward = omega arith;
    }

pub returns-then-b-eq34 : goal.returns-then-b-eq34
returns-then-b-eq34 c =
    let e = c.pass_ascii-then-b-eq34.ensures in
    record {
      runs = record { running = e.running; same = e.same ∙ c.loop-b.invariant.runs.same };
      rest = sym c.loop-b.invariant.same ∙ quote_ahead c.in-Some.b e.passed.0 _ _ c.in-Some.ensures e.passed.1 c.if-b-eq34.true;
      forward = omega arith;
    }

pub returns-in_default-escape_at : goal.returns-in_default-escape_at
returns-in_default-escape_at c =
    let none = sym (escape_ahead c.args.bytes.now c.loop-b.places c.offset.result c.loop-b.invariant.runs c.offset.ensures) ∙ sym c.escape_at.ensures ∙ c.in_default-escape_at.is in
    record {
      runs = c.loop-b.invariant.runs;
      rest = sym c.loop-b.invariant.same ∙ stuck_ahead c.in-Some.b _ c.in-Some.ensures (sym c.has-else-has.ensures ∙ c.if-has-2.false) c.if-b-eq34.false none;
      forward = omega arith;
    }

-- the escape, among the characters, and in the bytes
read : (c : goal.After-pass_run) → escape_at (ahead c.loop-b.places) ≡ Some (c.in-Some-escape_at.field-0-0, c.in-Some-escape_at.len)
read c = sym (escape_ahead c.args.bytes.now c.loop-b.places c.offset.result c.loop-b.invariant.runs c.offset.ensures) ∙ sym c.escape_at.ensures ∙ c.in-Some-escape_at.is

run : (c : goal.After-pass_run) → Escaped c.loop-b.places c.in-Some-escape_at.len
run c = escaped c.args.bytes.now c.loop-b.places c.offset.result c.in-Some-escape_at.field-0-0 c.in-Some-escape_at.len c.loop-b.invariant.runs c.offset.ensures (sym c.in-Some-escape_at.is ∙ c.escape_at.ensures)

rest : (c : goal.After-pass_run) → ahead c.pass_run.new.self ≡ drop c.in-Some-escape_at.len (ahead c.loop-b.places)
rest c =
    let e = c.pass_run.ensures in
    let r = run c in
    ahead_past_run c.loop-b.places c.pass_run.new.self c.in-Some-escape_at.len c.loop-b.invariant.runs.running e.same e.passed r.within r.run

pub pass_run-requires-clause-within : goal.pass_run-requires-clause-within
pass_run-requires-clause-within c = (escaped c.args.bytes.now c.loop-b.places c.offset.result c.in-Some-escape_at.field-0-0 c.in-Some-escape_at.len c.loop-b.invariant.runs c.offset.ensures (sym c.in-Some-escape_at.is ∙ c.escape_at.ensures)).within

pub pass_run-requires-clause-ascii : goal.pass_run-requires-clause-ascii
pass_run-requires-clause-ascii c = (escaped c.args.bytes.now c.loop-b.places c.offset.result c.in-Some-escape_at.field-0-0 c.in-Some-escape_at.len c.loop-b.invariant.runs c.offset.ensures (sym c.in-Some-escape_at.is ∙ c.escape_at.ensures)).run

pub loop-b-smaller : goal.loop-b-smaller
loop-b-smaller c = omega (arith, ap length (rest c), escape_shortens (ahead c.loop-b.places) c.in-Some-escape_at.field-0-0 c.in-Some-escape_at.len (read c))

pub loop-b-preserved : goal.loop-b-preserved
loop-b-preserved c =
    let e = c.pass_run.ensures in
    let passed = escaped_ahead c.in-Some.b c.in-Some-escape_at.field-0-0 c.in-Some-escape_at.len _ c.in-Some.ensures (sym c.has-else-has.ensures ∙ c.if-has-2.false) c.if-b-eq34.false (read c) in
    record {
      runs = record { running = e.running; same = e.same ∙ c.loop-b.invariant.runs.same };
      same = ap past_string (rest c) ∙ sym passed ∙ c.loop-b.invariant.same;
      forward = omega (arith, e.passed);
    }

pub returns : goal.returns
returns c =
    record { runs = c.loop-b.invariant.runs; rest = sym c.loop-b.invariant.same ∙ string_end _ c.in_default.ensures; forward = omega arith }
