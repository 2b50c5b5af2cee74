use Rattle.std.proofs.Common.{sym, ◌∙◌}
use Rattle.std.specs.Str.{chars}
use Rattle.graphql_report.proofs.NumberParts.{bare-exponent, exponent-read}
use Rattle.graphql_report.proofs.faults.after_exponent.Goals as goal

pub returns-then-not-begins_with_digit-clause-cases : goal.returns-then-not-begins_with_digit-clause-cases
returns-then-not-begins_with_digit-clause-cases c =
    bare-exponent (chars c.args.text.now) (chars c.in-Some.exponent.now) (chars c.after_sign-digits.result.now) c.in-Some.c c.in-Some.ensures.cases
    (sym c.is_exponent.ensures ∙ c.if-not-is_exponent.false) c.after_sign-digits.ensures (sym c.begins_with_digit.ensures ∙ c.if-not-begins_with_digit.true)

pub returns-clause-cases : goal.returns-clause-cases
returns-clause-cases c =
    exponent-read (chars c.args.text.now) (chars c.in-Some.exponent.now) (chars c.after_sign-digits.result.now) (chars c.after_digits.result.now) c.in-Some.c c.in-Some.ensures.cases
    (sym c.is_exponent.ensures ∙ c.if-not-is_exponent.false) c.after_sign-digits.ensures
    (sym c.begins_with_digit.ensures ∙ c.if-not-begins_with_digit.false) c.after_digits.ensures.after c.after_digits.ensures.all
