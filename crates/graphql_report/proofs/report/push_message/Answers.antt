use Rattle.std.proofs.Common.{ℕ, List, ◌++◌, refl, sym, ap, ◌∙◌, append_assoc}
use Rattle.std.specs.Prelude.{codes}
use Rattle.std.specs.String.{string_bytes}
use Rattle.graphql_report.specs.declared.style.Part.TheVariants.{Error as Word}
use Rattle.graphql_report.specs.reports.Reports.{styled, syntax, other}
use Rattle.graphql_report.proofs.report.push_message.Goals as goal

pub returns-in_default : goal.returns-in_default
returns-in_default c = (c.args.message.now, other c.in_default.ensures.cases refl, c.in_ok-push_str.ensures.bytes)

pub returns : goal.returns
returns c =
    let old : List ℕ = string_bytes c.args.out.now in
    let word : List ℕ = styled c.args.style Word (codes "error") in
    let rest : List ℕ = c.in-Some.rest.now in (
      (codes "syntax " ++ word) ++ rest,
      syntax rest (c.in-Some.ensures.cases.1.1 ∙ ap (λ (l : List ℕ). codes "syntax error" ++ l) (sym c.in-Some.ensures.cases.2)) refl,
      c.in_ok-push_str-3.ensures.bytes ∙ ap (λ (l : List ℕ). l ++ rest) (c.in_ok-push.ensures ∙ ap (λ (l : List ℕ). l ++ word) c.in_ok-push_str-2.ensures.bytes ∙ append_assoc old (codes "syntax ") word) ∙ append_assoc old (codes "syntax " ++ word) rest,
    )
