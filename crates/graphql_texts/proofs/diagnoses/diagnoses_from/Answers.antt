use Rattle.std.proofs.Common.{◌<◌, List, [], ◌∷◌, ◌++◌, length, All, arith, sym, subst}
use Rattle.std.proofs.lemmas.List.Elements.{All-push}
use Rattle.graphql_texts.specs.declared.diagnoses.Diagnosis.{Diagnosis}
use Rattle.graphql_texts.specs.checked.Diagnosed.{IsDiagnosisOf}
use Rattle.graphql_texts.proofs.diagnoses.diagnoses_from.Goals as goal

more-is-some : (found : List Diagnosis) (next : Diagnosis) → 0 < length (found ++ next ∷ [])
more-is-some [] next = omega arith
more-is-some (first ∷ found) next = omega arith

pub loop-preserved : goal.loop-preserved
loop-preserved c = record {
  begins = rw c.in-Some.is at c.in_ok-next.ensures;
  some = subst (λ (l : List Diagnosis). 0 < length l) (sym c.in_ok-push-2.ensures.items) (more-is-some c.loop.found.items c.in_ok-diagnosis_of-2.field-0);
  within = subst (λ (l : List Diagnosis). All (IsDiagnosisOf c.args.source.now.text.now) l) (sym c.in_ok-push-2.ensures.items) (All-push (IsDiagnosisOf c.args.source.now.text.now) c.loop.found.items c.in_ok-diagnosis_of-2.field-0 c.loop.invariant.within c.in_ok-diagnosis_of-2.ensures);
}
