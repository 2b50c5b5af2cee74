use Rattle.std.proofs.Common.{◌≡◌, ◌^◌, ◌<◌, length, arith, ℕ, List, ◌++◌, Option, refl, sym, ap, ◌∙◌, append-nil}
use Rattle.std.specs.Prelude.{codes}
use Rattle.std.specs.String.{string_bytes}
use Rattle.graphql_tokens.specs.declared.pos.Pos.{Pos}
use Rattle.graphql_report.specs.reports.Findings.{limit_words}
use Rattle.graphql_report.specs.reports.Hints.{unclosed_hint, unclosed_part}
use Rattle.graphql_report.proofs.Refusing.{known-place, not-known, ends-there}
use Rattle.graphql_report.proofs.findings.limit_finding.Goals as goal
use Rattle.graphql_report.proofs.findings.limit_finding.Goals.{in-Some-unclosed+in_ok-push_unclosed, in_default-unclosed}

pub returns-in_default : goal.returns-in_default
returns-in_default c = record {
  stands = (c.place_of.result, refl, (c.place_of.ensures.inside, λ token known. not-known c.args.language c.args.limits c.args.text.now c.args.read.now token c.in_default.is known));
  ends = λ token known. not-known c.args.language c.args.limits c.args.text.now c.args.read.now token c.in_default.is known;
  status = refl;
  message = (refl, (codes " at the end of the text", (λ token known. not-known c.args.language c.args.limits c.args.text.now c.args.read.now token c.in_default.is known), c.in_ok-from_str.ensures.ok));
}

pub returns : goal.returns
returns c =
    let short : length c.args.text.now < 2 ^ 63 = omega arith in
    let words : List ℕ = limit_words c.in_ok-depth.depth.what.now c.in_ok-depth.depth.most in
    let limit : List ℕ = codes "recursion limit exceeded" in
    let told : string_bytes c.match-read-2.message ≡ limit ++ (words ++ unclosed_part c.args.read.now.unclosed) = elim c.match-read-2.branch [
      | in-Some-unclosed+in_ok-push_unclosed w ↦ ap string_bytes w.message-is ∙ w.in_ok-push_unclosed.ensures ∙ ap (λ (l : List ℕ). l ++ unclosed_hint w.in-Some-unclosed.place) c.in_ok-message.ensures.ok ∙ ap (λ (u : Option Pos). limit ++ (words ++ unclosed_part u)) (sym w.in-Some-unclosed.is)
      | in_default-unclosed w ↦ ap string_bytes w.message-is ∙ c.in_ok-message.ensures.ok ∙ ap (λ (l : List ℕ). limit ++ l) (sym (append-nil words)) ∙ ap (λ (u : Option Pos). limit ++ (words ++ unclosed_part u)) (sym w.in_default-unclosed.is)
    ] in
    record {
      stands = (c.place_of-2.result, refl, (c.place_of-2.ensures.inside, λ token known. known-place c.args.language c.args.limits c.args.text.now c.args.read.now token c.in-Some.token c.place_of-2.result c.utf8.text c.requires c.in-Some.is known c.place_of-2.ensures.place));
      ends = λ token known. ends-there c.args.language c.args.limits c.args.text.now c.args.read.now token c.in-Some.token c.end_of_token.result c.utf8.text short c.requires c.in-Some.is known c.end_of_token.ensures;
      status = refl;
      message = (refl, (words ++ unclosed_part c.args.read.now.unclosed, (λ token known. (c.in_ok-depth.depth.what.now, c.in_ok-depth.depth.most, c.in_ok-depth.ensures, refl)), told));
    }
