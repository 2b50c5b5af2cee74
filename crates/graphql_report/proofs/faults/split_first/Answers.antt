use Rattle.std.proofs.Common.{ℕ, List, ◌∷◌, sym, ap, ◌∙◌}
use Rattle.std.specs.Str.{chars}
use Rattle.graphql_report.proofs.StringTexts.{first-char}
use Rattle.graphql_report.proofs.faults.split_first.Goals as goal

pub returns-clause-cases : goal.returns-clause-cases
returns-clause-cases c = first-char c.args.text.now c.chars-rest.result c.next.new.self c.in-Some.c c.utf8.text c.chars-rest.ensures.rest c.in-Some.ensures.steps ∙ ap (λ (l : List ℕ). c.in-Some.c ∷ chars l) (sym c.as_str.ensures)
