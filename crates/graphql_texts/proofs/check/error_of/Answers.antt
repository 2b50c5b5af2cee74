use Rattle.std.proofs.Common.{◌≡◌, ◌∙◌, ap, Bool, subst, sym, refl, inl, inr, arith}
use Rattle.graphql_parser.specs.Checking.{checked}
use Rattle.graphql_parser.specs.answers.Answers.{Answers}
use Rattle.graphql_parser.specs.requests.Requests.{requests}
use Rattle.graphql_report.specs.declared.fronts.Language.{Language}
use Rattle.graphql_texts.specs.checked.Good.{HasDocument, HasDocumentOf}
use Rattle.graphql_texts.proofs.Lacking.{lacking, lacks-told}
use Rattle.graphql_parser.specs.answers.Memory.{most_taken}
use Rattle.graphql_texts.proofs.check.error_of.Goals as goal
use Rattle.graphql_texts.proofs.check.error_of.Goals.{in-Requests+in-Err+in-Err, in-Schemas+in-Err-answer}

same-first : {A B : Type 0} (p q : A × B) → p ≡ q → p.0 ≡ q.0
same-first p q e = ap (λ (x : _ × _). x.0) e

pub returns-in-OutOfMemory-clause-refused : goal.returns-in-OutOfMemory-clause-refused
unfolding most_taken
returns-in-OutOfMemory-clause-refused c = elim c.match-source.branch [
  | in-Requests+in-Err+in-Err w ↦
      let none = sym w.in-Err.error-is ∙ same-first _ _ (sym w.error-is) ∙ c.in-OutOfMemory.is in
      rw w.memory-is (w.check_query_to-answer.ensures.refused (rw (w.in-Err.is, none) refl))
  | in-Schemas+in-Err-answer w ↦
      let none = same-first _ _ (sym w.error-is) ∙ c.in-OutOfMemory.is in
      rw w.memory-is (elim (w.check_schema_to-answer.ensures.refused (rw (w.in-Err-answer.is, none) refl)) [ inl heap ↦ inl heap | inr less ↦ inr (omega (arith, less)) ])
]

pub returns-in-Err-MissingOperation-clause-good : goal.returns-in-Err-MissingOperation-clause-good
returns-in-Err-MissingOperation-clause-good c is tokens cut =
    let limits = c.args.source.now.limits in
    let told = lacks-told _ _ c.in-Err-MissingOperation.is c.in-Err-MissingOperation.field-0-is in
    let answer = subst (Answers (checked requests) limits tokens) told (c.check_query_to-answer.ensures.reads.answer tokens cut) in
    subst (λ (language : Language). HasDocumentOf c.args.takes_fragments language limits tokens) (sym c.in-Requests.is)
    (subst (λ (b : Bool). HasDocument b requests limits tokens) (sym c.if-takes_fragments.true) (lacking limits tokens answer))
