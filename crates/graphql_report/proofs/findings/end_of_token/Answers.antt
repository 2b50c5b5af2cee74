use Rattle.std.proofs.Common.{◌≡◌, ◌-◌, ◌+◌, ◌^◌, ℕ, List, take, length, ap, ◌∙◌, inl, inr, arith}
use Rattle.std.proofs.lemmas.List.{take_all}
use Rattle.std.specs.Str.{chars}
use Rattle.std.specs.Prelude.{min}
use Rattle.graphql_tokens.specs.tokens.Calculator.{Calculator}
use Rattle.graphql_tokens.specs.tokens.Place.{place_after}
use Rattle.graphql_report.proofs.Spots.{ends}
use Rattle.graphql_report.proofs.findings.end_of_token.Goals as goal
use Rattle.graphql_report.proofs.findings.end_of_token.Goals.{then-is_one_line, else-is_one_line}

pub returns : goal.returns
returns c = λ front few begins.
    let text : List ℕ = c.args.token.now.text.now in
    let all : take (length text) text ≡ text = take_all (length text) text (omega arith) in
    let count : c.stepped.result ≡ length (chars text) =
    c.stepped.ensures ∙ ap (λ (x : List ℕ). length (chars x)) (ap (λ (k : ℕ). take k c.step-end.new.self.text) (ap (λ (m : Calculator). m.offset) c.step-end.ensures.moved)
    ∙ ap (λ (x : List ℕ). take (length text) x) (ap (λ (m : Calculator). m.text) c.step-end.ensures.moved ∙ c.new-places.ensures.text) ∙ all) in
    let end : c.step-end.result ≡ place_after (chars text) =
    c.step-end.ensures.place ∙ ap (λ (x : List ℕ). place_after (chars x)) (ap (λ (x : List ℕ). take (length text) x) c.new-places.ensures.text ∙ all) in
    ends front (chars text) c.saturating_sub-2.result c.saturating_add.result c.if-is_one_line.column c.args.token.now.pos c.step-end.result few begins end c.saturating_sub-2.ensures c.saturating_add.ensures
    (elim c.if-is_one_line.branch [ then-is_one_line w ↦ inl (omega (arith, w.if-is_one_line.true, count), w.column-is ∙ w.saturating_add-column.ensures ∙ ap (λ (k : ℕ). min (c.args.token.now.pos.column + k) (2 ^ 64 - 1)) w.saturating_sub.ensures) | else-is_one_line w ↦ inr (omega (arith, w.if-is_one_line.false, count), w.column-is) ])
