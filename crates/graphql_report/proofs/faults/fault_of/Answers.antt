use Rattle.std.proofs.Common.{ℕ, ◌∷◌, ap, ◌∙◌}
use Rattle.std.specs.Str.{chars}
use Rattle.std.specs.String.{string_bytes}
use Rattle.graphql_report.specs.reports.Faults.{IsToldOfFault}
use Rattle.graphql_report.proofs.NumberParts.{for-value}
use Rattle.graphql_report.proofs.faults.fault_of.Goals as goal

pub returns-then-first-eq34-clause-told : goal.returns-then-first-eq34-clause-told
returns-then-first-eq34-clause-told c = for-value c.string_fault.result (λ value fault. IsToldOfFault value (chars c.args.text.now) (string_bytes fault.message)) c.args.is_value c.string_fault.ensures.told

pub returns-then-first-eq45-clause-told : goal.returns-then-first-eq45-clause-told
returns-then-first-eq45-clause-told c = c.in_ok-minus.ensures (chars c.args.text.now) (c.in-Some.ensures.cases ∙ ap (λ (x : ℕ). x ∷ chars c.in-Some.rest.now) c.if-first-eq45.true)
