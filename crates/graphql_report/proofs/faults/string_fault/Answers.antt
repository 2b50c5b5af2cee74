use Rattle.std.proofs.Common.{ℕ, ◌≤◌, Option, length, ap, sym, ◌∙◌, subst, arith}
use Rattle.std.specs.Prelude.{IfSome, unwrap_or}
use Rattle.std.specs.Str.{chars}
use Rattle.graphql_report.specs.inner.Carets.{TellsEscape}
use Rattle.graphql_report.specs.reports.Faults.{bad_escape}
use Rattle.graphql_report.proofs.StringTexts.{escape-at}
use Rattle.graphql_report.proofs.faults.string_fault.Goals as goal

pub open_fault-requires-clause-good : goal.open_fault-requires-clause-good
open_fault-requires-clause-good c = subst (λ (found : Option ℕ). TellsEscape (chars c.args.text.now) (unwrap_or found 0)) c.in_default.is c.in_ok-offset.ensures.escape

pub shown_escape-requires : goal.shown_escape-requires
shown_escape-requires c =
    let at = escape-at c.args.text.now c.after.result.now c.in-Some.offset c.utf8.text
    (subst (λ (found : Option ℕ). TellsEscape (chars c.args.text.now) (unwrap_or found 0)) c.in-Some.is c.in_ok-offset.ensures.escape)
    (subst (λ (found : Option ℕ). IfSome found (λ offset. 1 ≤ offset)) c.in-Some.is c.in_ok-offset.ensures.some) c.after.ensures in
    omega (arith, ap length at.is)

pub returns-clause-escape : goal.returns-clause-escape
returns-clause-escape c = subst (λ (found : Option ℕ). TellsEscape (chars c.args.text.now) (unwrap_or found 0)) c.in-Some.is c.in_ok-offset.ensures.escape

pub returns-clause-told : goal.returns-clause-told
returns-clause-told c = λ value.
    let at = escape-at c.args.text.now c.after.result.now c.in-Some.offset c.utf8.text
    (subst (λ (found : Option ℕ). TellsEscape (chars c.args.text.now) (unwrap_or found 0)) c.in-Some.is c.in_ok-offset.ensures.escape)
    (subst (λ (found : Option ℕ). IfSome found (λ offset. 1 ≤ offset)) c.in-Some.is c.in_ok-offset.ensures.some) c.after.ensures in
    bad_escape at.bad (chars c.shown_escape.result.now) c.shown_escape.ensures.0 (sym at.is ∙ c.shown_escape.ensures.1) c.shown_escape.ensures.2 c.shown_escape.ensures.3 c.in_ok-message.ensures
