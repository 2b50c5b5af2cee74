use Rattle.std.proofs.Common.{◌≡◌, ℕ, List, [], ◌∷◌, ◌++◌, Option, Some, String, Global, sym, ap, ◌∙◌, subst}
use Rattle.std.specs.Prelude.{codes}
use Rattle.std.specs.String.{string_bytes}
use Rattle.graphql_tokens.specs.declared.pos.Pos.{Pos}
use Rattle.graphql_report.specs.reports.Reports.{IsReportWith, Shows, named}
use Rattle.graphql_report.specs.reports.Refused.{IsKnown}
use Rattle.graphql_report.specs.inner.Told.{AddsPart}
use Rattle.graphql_report.proofs.ReportParts.{if-ok, shows-both, shows-one}
use Rattle.graphql_report.proofs.report.explain_from.Goals as goal
use Rattle.graphql_report.proofs.report.explain_from.Goals.{in-Some-second+in_ok-push_part-2, in_default-second}

pub returns-in_default : goal.returns-in_default
returns-in_default c =
    let file : List ℕ = c.args.file_name.now in
    let message : List ℕ = string_bytes c.in_ok-finding.finding.message in
    if-ok (λ (line : String Global). string_bytes line ≡ named file (codes ": ") ++ c.as_str-message.result.now ++ 10 ∷ []) (λ (line : String Global). IsReportWith c.args.style file (IsKnown c.args.language c.args.limits c.args.text.now c.args.read.now) c.args.language c.args.limits c.args.text.now c.args.read.now.from c.args.read.now.unclosed c.args.error.now (string_bytes line)) c.placeless_report.result c.placeless_report.ensures (λ line is. record {
      finding = c.in_ok-finding.finding;
      is = c.in_ok-finding.ensures;
      shows = subst (λ (place : Option Pos). Shows c.args.style file c.args.error.now place message (string_bytes line)) (sym c.in_default.is) (is ∙ ap (λ (l : List ℕ). (named file (codes ": ") ++ l) ++ 10 ∷ []) c.as_str-message.ensures.value);
    })

pub returns : goal.returns
returns c =
    let style = c.args.style in
    let file : List ℕ = c.args.file_name.now in
    let error = c.args.error.now in
    let message : List ℕ = string_bytes c.in_ok-finding.finding.message in
    let told : AddsPart style file c.in-Some.place message (string_bytes c.new-report.result) (string_bytes c.push_part.new.out) = subst (λ (l : List ℕ). AddsPart style file c.in-Some.place l (string_bytes c.new-report.result) (string_bytes c.push_part.new.out)) c.as_str-message.ensures.value c.in_ok-push_part.ensures in
    record {
      finding = c.in_ok-finding.finding;
      is = c.in_ok-finding.ensures;
      shows = subst (λ (place : Option Pos). Shows style file error place message (string_bytes c.match-offsets.report)) (sym c.in-Some.is) (elim c.match-offsets.branch [
        | in-Some-second+in_ok-push_part-2 w ↦ subst (λ (r : List ℕ). Shows style file error (Some c.in-Some.place) message r) (ap string_bytes (sym w.report-is)) (shows-both style file c.args.text.now error c.in_ok-offsets.offsets c.in-Some.place w.in-Some-second.second message _ _ _ c.in_ok-offsets.ensures w.in-Some-second.is c.new-report.ensures.bytes told w.in_ok-push_part-2.ensures)
        | in_default-second w ↦ subst (λ (r : List ℕ). Shows style file error (Some c.in-Some.place) message r) (ap string_bytes (sym w.report-is)) (shows-one style file c.args.text.now error c.in_ok-offsets.offsets c.in-Some.place message _ _ c.in_ok-offsets.ensures w.in_default-second.is c.new-report.ensures.bytes told)
      ]);
    }
