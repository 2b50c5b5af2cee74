use Rattle.std.proofs.Common.{ℕ, List, [], ◌∷◌, ◌++◌, ap, ◌∙◌}
use Rattle.graphql_report.proofs.report.placeless_report.Goals as goal

pub returns : goal.returns
returns c = c.in_ok-push_str-2.ensures.bytes ∙ ap (λ (l : List ℕ). l ++ 10 ∷ []) (c.in_ok-push_str.ensures.bytes ∙ ap (λ (l : List ℕ). l ++ c.args.message.now) c.in_ok-out.ensures)
