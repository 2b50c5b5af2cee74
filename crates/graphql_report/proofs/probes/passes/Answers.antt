use Rattle.std.proofs.Common.{◌≡◌, ℕ, List, [], ◌∷◌, ◌++◌, ap, ◌∙◌, lit<, subst}
use Rattle.std.specs.Prelude.{IfOk}
use Rattle.std.proofs.lemmas.Str.{IsUtf8-string_bytes}
use Rattle.std.specs.String.{string_bytes}
use Rattle.graphql_report.specs.reports.Expected.{TellsFrontOf, with_sample}
use Rattle.graphql_report.proofs.Buffers.{pushed-line-feed}
use Rattle.graphql_report.proofs.probes.passes.Goals as goal

pub is_front-requires : goal.is_front-requires
is_front-requires c = pushed-line-feed (string_bytes c.push_str-2.new.self) c.as_str.result.now (IsUtf8-string_bytes c.push_str-2.new.self) (c.as_str.ensures.value ∙ c.in_ok-push.ensures.bytes ∙ ap (λ (l : List ℕ). string_bytes c.push_str-2.new.self ++ l) (c.in_ok-push.ensures.ascii (lit< tt)))

pub returns : goal.returns
returns c =
    let text : c.as_str.result.now ≡ with_sample c.args.line.now c.args.sample.now =
    c.as_str.ensures.value ∙ c.in_ok-push.ensures.bytes ∙ ap (λ (l : List ℕ). string_bytes c.push_str-2.new.self ++ l) (c.in_ok-push.ensures.ascii (lit< tt))
    ∙ ap (λ (l : List ℕ). l ++ 10 ∷ []) (c.in_ok-push_str-2.ensures.bytes ∙ ap (λ (l : List ℕ). l ++ c.args.sample.now) (c.in_ok-push_str.ensures.bytes ∙ ap (λ (l : List ℕ). l ++ c.args.line.now) c.in_ok-text.ensures.bytes)) in
    subst (λ (l : List ℕ). IfOk c.is_front.result (TellsFrontOf c.args.language c.args.limits l)) text c.is_front.ensures
