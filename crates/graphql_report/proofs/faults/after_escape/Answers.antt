use Rattle.std.proofs.Common.{length, below_more, ap, sym, subst, arith}
use Rattle.std.specs.Str.{chars}
use Rattle.graphql_tokens.specs.tokens.Edition.{Current}
use Rattle.graphql_tokens.specs.tokens.Strings.{IsContent}
use Rattle.graphql_report.proofs.Escapes.{all-tried}
use Rattle.graphql_report.proofs.StringTexts.{none-of, content-of}
use Rattle.graphql_report.proofs.faults.after_escape.Goals as goal

pub loop-length-preserved : goal.loop-length-preserved
loop-length-preserved c =
    below_more _ _ c.loop-length.invariant
    (λ content. none-of c.in_ok-string_value.field-0 c.is_some.result (IsContent Current (chars c.split_chars.result.0.now) → ⊥) c.is_some.ensures c.if-is_some.false c.in_ok-string_value.ensures.none
    (subst (IsContent Current) (sym c.split_chars.ensures.first) content))

pub returns-then-is_some-2-clause-some : goal.returns-then-is_some-2-clause-some
returns-then-is_some-2-clause-some c = (
  c.split_at_brace.ensures.utf8,
  record {
    content = chars c.split_at_brace.result.0.now;
    is_content = content-of c.in_ok-string_value-2.field-0 c.is_some-2.result (chars c.split_at_brace.result.0.now) c.is_some-2.ensures c.if-is_some-2.true c.in_ok-string_value-2.ensures.some;
    some = c.split_at_brace.ensures.some (omega (arith, ap length c.requires.1));
    whole = c.split_at_brace.ensures.split;
  },
)

pub returns-clause-none : goal.returns-clause-none
returns-clause-none c = all-tried (chars c.args.text.now) c.requires.0 c.requires.1 (record {
  two = c.loop-length.invariant 0 (omega arith);
  six = c.loop-length.invariant 1 (omega arith);
  twelve = c.loop-length.invariant 2 (omega arith);
  braced = λ front after h e content. none-of c.in_ok-string_value-2.field-0 c.is_some-2.result (IsContent Current (chars c.split_at_brace.result.0.now) → ⊥) c.is_some-2.ensures c.if-is_some-2.false c.in_ok-string_value-2.ensures.none
      (subst (IsContent Current) (sym (c.split_at_brace.ensures.brace front after h e)) content);
})
