use Rattle.std.proofs.Common.{rules, arith, length-append, ◌≡◌, Bool, IsTrue, false, List, [], ◌∷◌, length, ap, sym, ◌∙◌, ◌++◌, subst, append_assoc, inr}
use Rattle.std.proofs.lemmas.List.{append-nil, nil_from_length}
use Rattle.std.proofs.lemmas.Result.{err_from_is_err_and}
use Rattle.graphql_memory.specs.Memory.{Takes}
use Rattle.graphql_requests.specs.reading.SelectionFunds.{definition_bytes}
use Rattle.graphql_requests.specs.reading.Definitions.{definition_tree}
use Rattle.graphql_requests.specs.reading.Sorting.{definition_trees, IsSorted, IsAdded}
use Rattle.graphql_requests.proofs.OneMore.{map-last}
use Rattle.graphql_requests.specs.grammar.Requests.{requests}
use Rattle.graphql_grammar.proofs.Answering.{breaks}
use Rattle.graphql_requests.proofs.Sorted.{sorted-none, trees-split, single-document, multiple-document, lacks-operation}
use Rattle.graphql_requests.proofs.rules.KeptDefinitionsKept.into_document.Goals as goal
use Rattle.graphql_requests.proofs.rules.KeptDefinitionsKept.into_document.Goals.{After-branch-added, in-Operation+in-Some-name, in-Operation+in-None-name, in-Fragment, in-Some-anonymous, in-None-2}

pub loop-definition-init : goal.loop-definition-init
loop-definition-init c = (tt, tt, search rules, sorted-none _ c.none_of-sorted.ensures.anonymous c.none_of-sorted.ensures.operations c.none_of-sorted.ensures.fragments, (omega arith, omega arith))

-- a definition is added by what it is
added : (c : After-branch-added) → IsAdded (definition_trees c.loop-definition.yielded) (definition_tree c.in-Some.definition) c.match-definition.added c.match-definition.sorted
added c =
    let kept = c.loop-definition.invariant.3 in
    elim c.match-definition.branch [ in-Operation+in-Some-name w ↦ rw (w.added-is, w.sorted-is, w.in-Operation.is, w.in-Some-name.is) (w.add_operation.ensures.added _ kept) | in-Operation+in-None-name w ↦ rw (w.added-is, w.sorted-is, w.in-Operation.is, w.in-None-name.is) (w.add_anonymous.ensures.added _ kept) | in-Fragment w ↦ rw (w.added-is, w.sorted-is, w.in-Fragment.is) (w.add_fragment-added.ensures.added _ kept) ]

-- what it takes
asked : (c : After-branch-added) → Takes definition_bytes c.loop-definition.memory c.match-definition.memory
asked c = elim c.match-definition.branch [ in-Operation+in-Some-name w ↦ rw w.memory-is w.add_operation.ensures.takes | in-Operation+in-None-name w ↦ rw w.memory-is (omega arith, omega arith) | in-Fragment w ↦ rw w.memory-is w.add_fragment-added.ensures.takes ]

pub loop-definition-preserved : goal.loop-definition-preserved
loop-definition-preserved c =
    let kept = c.loop-definition.invariant in
    let front = c.loop-definition.yielded in
    let longer = length-append front (c.in-Some.definition ∷ []) in
    let more = asked (goal.at.loop-definition-preserved c).After-branch-added in (
      tt,
      tt,
      kept.2 ∙ ap (λ l. front ++ l) c.in-Some.ensures.steps.0 ∙ sym (append_assoc front (c.in-Some.definition ∷ []) _),
      subst (λ ds. IsSorted ds c.match-definition.sorted) (sym (map-last definition_tree front c.in-Some.definition)) (rw c.in_ok-added.was at (added (goal.at.loop-definition-preserved c).After-branch-added)),
      (omega (arith, longer, kept.4, more), omega (arith, kept.4, more)),
    )

pub returns-in_err-added-clause-document : goal.returns-in_err-added-clause-document
returns-in_err-added-clause-document c ds h =
    let kept = c.loop-definition.invariant in
    let front = c.loop-definition.yielded in
    let p = err_from_is_err_and c.from_residual.result c.from_residual.ensures.1 in
    rw (p.1, p.2) (breaks requests ds (definition_trees front) (definition_tree c.in-Some.definition) _ _
    (sym h ∙ ap definition_trees (kept.2 ∙ ap (λ l. front ++ l) c.in-Some.ensures.steps.0) ∙ trees-split front c.in-Some.definition _)
    kept.3.unbroken (rw c.in_err-added.was at (added (goal.at.returns-in_err-added-clause-document c).After-branch-added)))

pub returns-in-None-anonymous-clause-document : goal.returns-in-None-anonymous-clause-document
returns-in-None-anonymous-clause-document c ds h =
    let kept = c.loop-definition.invariant in
    let front = c.loop-definition.yielded in
    let s = c.loop-definition.sorted in
    let all = kept.2 ∙ ap (λ l. front ++ l) (nil_from_length _ (sym c.loop-definition.definition-iterator.rest.ok.0 ∙ c.in-None.ensures.steps.0)) ∙ append-nil front in
    let sorted = subst (λ ds. IsSorted ds s) (ap definition_trees (sym all) ∙ h) kept.3 in
    inr (lacks-operation ds s sorted c.in-None-anonymous.is (nil_from_length _ (c.is_empty.ensures.0 c.if-is_empty.true)))

not-empty : {A : Type 0} {es : List A} {r : Bool} → r ≡ false → (es ≡ [] → IsTrue r) → es ≡ [] → ⊥
not-empty e h k = let yes = h k in absurd (let no = sym yes ∙ e in cc)

pub returns-clause-document : goal.returns-clause-document
returns-clause-document c ds h =
    let kept = c.loop-definition.invariant in
    let front = c.loop-definition.yielded in
    let s = c.loop-definition.sorted in
    let all = kept.2 ∙ ap (λ l. front ++ l) (nil_from_length _ (sym c.loop-definition.definition-iterator.rest.ok.0 ∙ c.in-None.ensures.steps.0)) ∙ append-nil front in
    let sorted = subst (λ ds. IsSorted ds s) (ap definition_trees (sym all) ∙ h) kept.3 in
    elim c.match-anonymous.branch [ in-Some-anonymous w ↦ single-document ds s _ _ sorted w.in-Some-anonymous.is w.operations-is | in-None-2 w ↦ multiple-document ds s _ sorted w.in-None-anonymous.is (not-empty w.if-is_empty.false (λ e. w.is_empty.ensures.1 (ap length e))) w.operations-is ]
