use Rattle.std.proofs.Common.{◌∙◌, arith}
use Rattle.graphql_tokens.proofs.Numbers.{optional_by, whole_fails, fraction_fails, exponent_next}
use Rattle.graphql_tokens.proofs.lexer.number.pass_numeral.Goals as goal

pub returns-then-not-pass_whole : goal.returns-then-not-pass_whole
returns-then-not-pass_whole c =
    let m = optional_by 45 _ _ c.pass_char.result c.pass_char.ensures.rest c.pass_char.ensures.stays in
    let whole = c.if-not-pass_whole.ensures in
    record { runs = whole.runs; rest = whole_fails _ _ m whole.rest; forward = omega (arith, whole.forward) }

pub returns-then-not-pass_fraction : goal.returns-then-not-pass_fraction
returns-then-not-pass_fraction c =
    let m = optional_by 45 _ _ c.pass_char.result c.pass_char.ensures.rest c.pass_char.ensures.stays in
    let whole = c.if-not-pass_whole.ensures in
    let fraction = c.if-not-pass_fraction.ensures in
    record { runs = fraction.runs; rest = fraction_fails _ _ _ m whole.rest fraction.rest; forward = omega (arith, whole.forward, fraction.forward) }

pub returns-then-not-pass_exponent : goal.returns-then-not-pass_exponent
returns-then-not-pass_exponent c =
    let m = optional_by 45 _ _ c.pass_char.result c.pass_char.ensures.rest c.pass_char.ensures.stays in
    record {
      runs = c.if-not-pass_exponent.ensures.runs;
      rest = exponent_next _ _ _ _ _ m c.if-not-pass_whole.ensures.rest c.if-not-pass_fraction.ensures.rest c.if-not-pass_exponent.ensures.rest;
      forward = omega (arith, c.if-not-pass_whole.ensures.forward, c.if-not-pass_fraction.ensures.forward, c.if-not-pass_exponent.ensures.forward);
    }

pub returns : goal.returns
returns c =
    let m = optional_by 45 _ _ c.pass_char.result c.pass_char.ensures.rest c.pass_char.ensures.stays in
    record {
      runs = c.if-not-pass_exponent.ensures.runs;
      rest = exponent_next _ _ _ _ _ m c.if-not-pass_whole.ensures.rest c.if-not-pass_fraction.ensures.rest c.if-not-pass_exponent.ensures.rest ∙ c.may_end.ensures;
      forward = omega (arith, c.if-not-pass_whole.ensures.forward, c.if-not-pass_fraction.ensures.forward, c.if-not-pass_exponent.ensures.forward);
    }
