use Rattle.std.proofs.Common.{◌∷◌, ℕ, true, inl, inr, sym, ap, ◌∙◌}
use Rattle.std.specs.Prelude.{codes}
use Rattle.std.specs.Str.{chars}
use Rattle.std.specs.String.{string_bytes}
use Rattle.graphql_report.specs.reports.Faults.{IsToldOfCharacter, IsToldOfDigits, IsToldOfFault, plus, unsigned, character}
use Rattle.graphql_report.proofs.NumberParts.{told-ok, also-ok, dots-told, first-digit, no-other-row, no-plus}
use Rattle.graphql_report.proofs.faults.other_fault.Goals as goal
use Rattle.graphql_report.proofs.faults.other_fault.Goals.{else-is_value-via-then-is_value+else-first-eq43, else-is_value-via-else-is_value}

pub returns-then-first-eq46 : goal.returns-then-first-eq46
returns-then-first-eq46 c = told-ok string_bytes c.from_str.result (IsToldOfFault c.args.is_value (chars c.args.text.now)) c.dots_fault.result.now c.from_str.ensures.ok
    (λ told e. dots-told c.args.is_value (chars c.args.text.now) c.requires.first.0 told (c.requires.first.1 ∙ ap (λ (x : ℕ). x ∷ c.requires.first.0) c.if-first-eq46.true) (e ∙ c.dots_fault.ensures))

pub returns-then-first-eq43 : goal.returns-then-first-eq43
returns-then-first-eq43 c = told-ok string_bytes c.from_str-then-first-eq43.result (IsToldOfFault c.args.is_value (chars c.args.text.now)) (codes "a number has no plus sign") c.from_str-then-first-eq43.ensures.ok
    (λ told e. plus c.requires.first.0 (c.requires.first.1 ∙ ap (λ (x : ℕ). x ∷ c.requires.first.0) c.if-first-eq43.true) c.if-is_value.true e)

pub returns-then-is_ascii_digit : goal.returns-then-is_ascii_digit
returns-then-is_ascii_digit c = also-ok string_bytes c.digits_fault.result (IsToldOfDigits (chars c.args.text.now)) (IsToldOfFault c.args.is_value (chars c.args.text.now)) c.digits_fault.ensures
    (λ told is. unsigned (first-digit (chars c.args.text.now) c.requires.first.0 c.args.first true c.requires.first.1 (sym c.is_ascii_digit.ensures.value ∙ c.if-is_ascii_digit.true)) is)

pub returns : goal.returns
returns c = also-ok string_bytes c.character_fault.result (IsToldOfCharacter c.args.first) (IsToldOfFault c.args.is_value (chars c.args.text.now)) c.character_fault.ensures
    (λ told is. character c.args.first c.requires.first.0 c.requires.first.1
    (no-other-row c.args.is_value c.args.first c.requires.other.0 c.requires.other.1 c.if-first-eq46.false
    (no-plus c.args.is_value c.args.first (elim c.else-is_value.branch [ else-is_value-via-then-is_value+else-first-eq43 w ↦ inr w.if-first-eq43.false | else-is_value-via-else-is_value w ↦ inl w.if-is_value.false ]))
    (sym c.is_ascii_digit.ensures.value ∙ c.if-is_ascii_digit.false)) is)
