use Rattle.std.proofs.Common.{◌≡◌, inl, inr, sym, ap, ◌∙◌}
use Rattle.std.proofs.lemmas.Slice.Eq.{bytes_eq-Decides}
use Rattle.graphql_report.specs.reports.Expected.{location_name, quoted}
use Rattle.graphql_report.proofs.hints.better_of.Goals as goal
use Rattle.graphql_report.proofs.hints.better_of.Goals.{then-eq+else-loop-location-test, else-eq+in-Some+in_ok-best-2, else-eq+in_default}

pub loop-location-preserved : goal.loop-location-preserved
loop-location-preserved c = elim c.in_ok-best.ensures [
  | inl same ↦ elim c.loop-location.invariant [ inl old ↦ inl (same ∙ old) | inr is ↦ inr (is.0, same ∙ is.1) ]
  | inr word ↦ inr (_, word ∙ c.as_str.ensures)
]

pub returns : goal.returns
returns c = elim c.if-eq.branch [
  | then-eq+else-loop-location-test w ↦ let at : c.args.name.now ≡ location_name = (bytes_eq-Decides _ _).0 (sym c.eq.ensures ∙ w.if-eq.true) in elim w.loop-location.invariant [ inl old ↦ inl (ap (λ b. b.word.now) w.best-is ∙ old) | inr is ↦ inr (inr (at, (is.0, ap (λ b. b.word.now) w.best-is ∙ is.1))) ]
  | else-eq+in-Some+in_ok-best-2 w ↦ elim w.in_ok-best-2.ensures [ inl same ↦ inl (ap (λ b. b.word.now) w.best-is ∙ same) | inr is ↦ inr (inl (w.in-Some.ensures ∙ ap quoted (sym (ap (λ b. b.word.now) w.best-is ∙ is)))) ]
  | else-eq+in_default w ↦ inl (ap (λ b. b.word.now) w.best-is)
]
