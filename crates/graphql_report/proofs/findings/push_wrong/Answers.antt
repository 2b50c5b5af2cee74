use Rattle.std.proofs.Common.{◌≡◌, ℕ, Bool, List, ◌++◌, drop, refl, ap, ◌∙◌, subst, append_assoc}
use Rattle.std.specs.Prelude.{codes}
use Rattle.std.specs.Str.{chars}
use Rattle.std.specs.String.{string_bytes}
use Rattle.graphql_tokens.specs.declared.lexer.TokenKind.TheVariants.{Fault}
use Rattle.graphql_tokens.specs.tokens.Seen.{seen}
use Rattle.graphql_report.specs.reports.Faults.{IsToldOfFault}
use Rattle.graphql_report.specs.reports.Words.{found}
use Rattle.graphql_report.proofs.Carets.{wrong-after}
use Rattle.graphql_report.proofs.findings.push_wrong.Goals as goal
use Rattle.graphql_report.proofs.findings.push_wrong.Goals.{in-Fault, in_default}

pub returns-then-matches-clause-caret : goal.returns-then-matches-clause-caret
returns-then-matches-clause-caret c =
    let fault : c.args.token.now.kind ≡ Fault = elim c.match-matches.branch [ in-Fault w ↦ w.in-Fault.is | in_default w ↦ absurd cc ] in
    wrong-after c.args.text.now c.split.result.1.now (seen c.args.token.now) c.in_ok-fault.fault.offset fault c.in_ok-fault.ensures.escape c.split.ensures.back c.split.ensures.elsewhere

pub returns-then-matches-clause-told : goal.returns-then-matches-clause-told
returns-then-matches-clause-told c =
    let fault : c.args.token.now.kind ≡ Fault = elim c.match-matches.branch [ in-Fault w ↦ w.in-Fault.is | in_default w ↦ absurd cc ] in
    let words : List ℕ = string_bytes c.in_ok-fault.fault.message in
    let there : List ℕ = drop c.args.token.now.start c.args.text.now in (
      words,
      c.in_ok-push_str.ensures.bytes ∙ ap (λ (l : List ℕ). string_bytes c.args.out.now ++ l) c.as_str.ensures.value,
      (λ other. absurd (other fault)),
      λ kind boundary. subst (λ (value : Bool). IsToldOfFault value (chars there) words) c.expects_value.ensures (subst (λ (rest : List ℕ). IsToldOfFault c.expects_value.result (chars rest) words) (c.split.ensures.back boundary) c.in_ok-fault.ensures.told),
    )

pub returns-clause-told : goal.returns-clause-told
returns-clause-told c =
    let words : List ℕ = codes "found " ++ found (seen c.args.token.now).bare in (
      words,
      c.in_ok-push_found.ensures ∙ ap (λ (l : List ℕ). l ++ found (seen c.args.token.now).bare) c.in_ok-push_str-2.ensures.bytes ∙ append_assoc (string_bytes c.args.out.now) (codes "found ") (found (seen c.args.token.now).bare),
      (λ other. refl),
      λ kind boundary. absurd (elim c.match-matches.branch [ in-Fault w ↦ absurd cc | in_default w ↦ w.in_default.not-Fault kind ]),
    )
