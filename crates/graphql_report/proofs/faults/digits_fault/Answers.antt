use Rattle.std.proofs.Common.{◌++◌, sym, ◌∙◌}
use Rattle.std.specs.Prelude.{codes}
use Rattle.std.specs.Char.{encode_utf8}
use Rattle.std.specs.Str.{chars}
use Rattle.std.specs.String.{string_bytes}
use Rattle.graphql_report.specs.reports.Faults.{IsToldOfDigits}
use Rattle.graphql_report.proofs.NumberParts.{told-ok, whole-read, point-told, exponent-told, follower-told, number-told}
use Rattle.graphql_report.proofs.faults.digits_fault.Goals as goal

pub returns-in_default : goal.returns-in_default
returns-in_default c = told-ok string_bytes c.from_str-in_default.result (IsToldOfDigits (chars c.args.text.now)) (codes "a digit has to follow the point of a number") c.from_str-in_default.ensures.ok
    (λ told e. point-told (chars c.args.text.now) (chars c.after_digits.result.now) told (whole-read (chars c.args.text.now) (chars c.after_digits.result.now) c.requires (sym c.has_leading_zero.ensures ∙ c.if-has_leading_zero.false) c.after_digits.ensures.after c.after_digits.ensures.all) c.in_default.ensures.cases e)

pub returns-in_default-after_exponent : goal.returns-in_default-after_exponent
returns-in_default-after_exponent c = told-ok string_bytes c.from_str-in_default-after_exponent.result (IsToldOfDigits (chars c.args.text.now)) (codes "the exponent of a number has to have a digit") c.from_str-in_default-after_exponent.ensures.ok
    (λ told e. exponent-told (chars c.args.text.now) (chars c.after_digits.result.now) (chars c.in-Some.rest.now) told (whole-read (chars c.args.text.now) (chars c.after_digits.result.now) c.requires (sym c.has_leading_zero.ensures ∙ c.if-has_leading_zero.false) c.after_digits.ensures.after c.after_digits.ensures.all) c.in-Some.ensures.cases c.in_default-after_exponent.ensures.cases e)

pub returns-in-Some-split_first : goal.returns-in-Some-split_first
returns-in-Some-split_first c = told-ok string_bytes c.format.result (IsToldOfDigits (chars c.args.text.now)) (encode_utf8 c.in-Some-split_first.c ++ codes " may not follow a number at once") c.format.ensures.ok
    (λ told e. follower-told (chars c.args.text.now) (chars c.after_digits.result.now) (chars c.in-Some.rest.now) (chars c.in-Some-after_exponent.rest.now) (chars c.in-Some-split_first.field-0-1.now) told c.in-Some-split_first.c (whole-read (chars c.args.text.now) (chars c.after_digits.result.now) c.requires (sym c.has_leading_zero.ensures ∙ c.if-has_leading_zero.false) c.after_digits.ensures.after c.after_digits.ensures.all) c.in-Some.ensures.cases c.in-Some-after_exponent.ensures.cases c.in-Some-split_first.ensures.cases e)

pub returns-in-None : goal.returns-in-None
returns-in-None c = told-ok string_bytes c.from_str-in-None.result (IsToldOfDigits (chars c.args.text.now)) (codes "this is no number") c.from_str-in-None.ensures.ok
    (λ told e. number-told (chars c.args.text.now) (chars c.after_digits.result.now) (chars c.in-Some.rest.now) (chars c.in-Some-after_exponent.rest.now) told (whole-read (chars c.args.text.now) (chars c.after_digits.result.now) c.requires (sym c.has_leading_zero.ensures ∙ c.if-has_leading_zero.false) c.after_digits.ensures.after c.after_digits.ensures.all) c.in-Some.ensures.cases c.in-Some-after_exponent.ensures.cases c.in-None.ensures.cases e)
