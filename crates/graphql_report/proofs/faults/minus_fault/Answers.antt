use Rattle.std.proofs.Common.{◌≡◌, ℕ, List, ◌∷◌, sym, ◌∙◌}
use Rattle.std.specs.Prelude.{codes}
use Rattle.std.specs.Str.{chars}
use Rattle.std.specs.String.{string_bytes}
use Rattle.graphql_report.specs.reports.Faults.{IsToldOfDigits, IsToldOfFault, minus, lone_minus, negative}
use Rattle.graphql_report.proofs.NumberParts.{told-ok, also-ok}
use Rattle.graphql_report.proofs.faults.minus_fault.Goals as goal

pub returns-then-not-is_value : goal.returns-then-not-is_value
returns-then-not-is_value c = told-ok string_bytes c.from_str.result (λ told. (text : List ℕ) → text ≡ 45 ∷ chars c.args.unsigned.now → IsToldOfFault c.args.is_value text told) (codes "no name contains a minus sign") c.from_str.ensures.ok
    (λ told e text at. minus (chars c.args.unsigned.now) at c.if-not-is_value.true e)

pub returns-then-not-begins_with_digit : goal.returns-then-not-begins_with_digit
returns-then-not-begins_with_digit c = told-ok string_bytes c.from_str-then-not-begins_with_digit.result (λ told. (text : List ℕ) → text ≡ 45 ∷ chars c.args.unsigned.now → IsToldOfFault c.args.is_value text told) (codes "a digit has to follow the minus sign") c.from_str-then-not-begins_with_digit.ensures.ok
    (λ told e text at. lone_minus (chars c.args.unsigned.now) at c.if-not-is_value.false (sym c.begins_with_digit.ensures ∙ c.if-not-begins_with_digit.true) e)

pub returns : goal.returns
returns c = also-ok string_bytes c.digits_fault.result (IsToldOfDigits (chars c.args.unsigned.now)) (λ told. (text : List ℕ) → text ≡ 45 ∷ chars c.args.unsigned.now → IsToldOfFault c.args.is_value text told) c.digits_fault.ensures
    (λ told is text at. negative (chars c.args.unsigned.now) at c.if-not-is_value.false is)
