use Rattle.std.proofs.Common.{sym, ◌∙◌}
use Rattle.std.specs.Str.{chars}
use Rattle.graphql_report.proofs.NumberParts.{fraction-read}
use Rattle.graphql_report.proofs.faults.after_fraction.Goals as goal

pub returns-clause-cases : goal.returns-clause-cases
returns-clause-cases c =
    fraction-read (chars c.args.text.now) (chars c.in-Some.digits.now) (chars c.after_digits.result.now) c.in-Some.c c.in-Some.ensures.cases c.if-c-ne46.false
    (sym c.begins_with_digit.ensures ∙ c.if-not-begins_with_digit.false) c.after_digits.ensures.after c.after_digits.ensures.all
