use Rattle.std.proofs.Common.{◌≡◌, ℕ, Bool, cond, List, [], ◌∷◌, ◌++◌, sym, ap, ◌∙◌, subst, append-nil}
use Rattle.std.specs.Borrow.{Bor}
use Rattle.graphql_report.specs.reports.Expected.{TellsFrontOf, TellsTreeOf, with_sample, name_text, end_name, literals, punctuators, keywords, AreTaken, value_names}
use Rattle.graphql_report.specs.inner.Called.{texts}
use Rattle.graphql_report.proofs.Buffers.{pushed-line-feed}
use Rattle.graphql_report.proofs.ExpectedNames.{joined}
use Rattle.graphql_report.proofs.expected.expected_in.Goals as goal
use Rattle.graphql_report.proofs.expected.expected_in.Goals.{then-has_name, else-has_name+in_ok-keywords, then-branch+in_ok-push, else-branch}

pub takes-requires-clause-line : goal.takes-requires-clause-line
takes-requires-clause-line c = pushed-line-feed c.args.front.now c.as_str-line.result.now c.utf8.front (c.as_str-line.ensures.value ∙ c.in_ok-text.ensures)

pub taken-requires-clause-line : goal.taken-requires-clause-line
taken-requires-clause-line c = pushed-line-feed c.args.front.now c.as_str-line.result.now c.utf8.front (c.as_str-line.ensures.value ∙ c.in_ok-text.ensures)

pub taken-requires-2-clause-line : goal.taken-requires-2-clause-line
taken-requires-2-clause-line c = pushed-line-feed c.args.front.now c.as_str-line.result.now c.utf8.front (c.as_str-line.ensures.value ∙ c.in_ok-text.ensures)

pub taken-requires-else-has_name-clause-line : goal.taken-requires-else-has_name-clause-line
taken-requires-else-has_name-clause-line c = pushed-line-feed c.args.front.now c.as_str-line.result.now c.utf8.front (c.as_str-line.ensures.value ∙ c.in_ok-text.ensures)

pub returns : goal.returns
returns c =
    let line : List ℕ = c.args.front.now ++ 10 ∷ [] in
    let here : c.as_str-line.result.now ≡ line = c.as_str-line.ensures.value ∙ c.in_ok-text.ensures in
    let of-values : List (List ℕ) = value_names c.in_ok-has_name.has_name (texts c.in_ok-literals.literals.items) in
    let values : texts c.in_ok-names.names.items ≡ of-values = c.in_ok-names.ensures ∙ ap (λ (l : List (Bor (List ℕ))). value_names c.in_ok-has_name.has_name (texts l)) c.as_slice.ensures.value in
    let with-punctuators : texts c.extend_from_slice.new.self.items ≡ of-values ++ texts c.in_ok-punctuators.punctuators.items =
    joined of-values c.in_ok-names.names.items c.in_ok-punctuators.punctuators.items c.extend_from_slice.new.self.items values
    (c.in_ok-extend_from_slice.ensures.items ∙ ap (λ (l : List (Bor (List ℕ))). c.in_ok-names.names.items ++ l) c.as_slice-2.ensures.value) in
    let told : List (List ℕ) = of-values ++ texts c.in_ok-punctuators.punctuators.items ++ texts c.if-has_name.keywords.items in
    let with-keywords : texts c.extend_from_slice-2.new.self.items ≡ told =
    joined (of-values ++ texts c.in_ok-punctuators.punctuators.items) c.extend_from_slice.new.self.items c.if-has_name.keywords.items c.extend_from_slice-2.new.self.items with-punctuators
    (c.in_ok-extend_from_slice-2.ensures.items ∙ ap (λ (l : List (Bor (List ℕ))). c.extend_from_slice.new.self.items ++ l) c.as_slice-3.ensures.value) in
    record {
      has_name = c.in_ok-has_name.has_name;
      tells_name = subst (λ (l : List ℕ). TellsFrontOf c.args.language c.args.limits (with_sample l name_text) c.in_ok-has_name.has_name) here c.in_ok-has_name.ensures;
      of_literals = texts c.in_ok-literals.literals.items;
      are_literals = subst (λ (l : List ℕ). AreTaken c.args.language c.args.limits l literals (texts c.in_ok-literals.literals.items)) here c.in_ok-literals.ensures;
      of_punctuators = texts c.in_ok-punctuators.punctuators.items;
      are_punctuators = subst (λ (l : List ℕ). AreTaken c.args.language c.args.limits l punctuators (texts c.in_ok-punctuators.punctuators.items)) here c.in_ok-punctuators.ensures;
      of_keywords = texts c.if-has_name.keywords.items;
      none_beside_a_name = λ is. elim c.if-has_name.branch [
        | then-has_name w ↦ ap (λ t. texts t.items) w.keywords-is ∙ ap texts w.new-keywords.ensures.items
        | else-has_name+in_ok-keywords w ↦ absurd cc
      ];
      are_keywords = λ is. elim c.if-has_name.branch [
        | then-has_name w ↦ absurd cc
        | else-has_name+in_ok-keywords w ↦ subst (λ (l : List (List ℕ)). AreTaken c.args.language c.args.limits line keywords l) (ap (λ t. texts t.items) (sym w.keywords-is)) (subst (λ (l : List ℕ). AreTaken c.args.language c.args.limits l keywords (texts w.in_ok-keywords.keywords.items)) here w.in_ok-keywords.ensures)
      ];
      is_whole = c.in_ok-ends.field-0;
      tells_whole = subst (λ (l : List ℕ). TellsTreeOf c.args.language c.args.limits l c.in_ok-ends.field-0) here c.in_ok-ends.ensures;
      are_names = elim c.if-branch.branch [
        | then-branch+in_ok-push w ↦ ap (λ t. texts t.items) w.names-is ∙ joined told c.extend_from_slice-2.new.self.items _ w.push.new.self.items with-keywords w.in_ok-push.ensures.items ∙ ap (λ (b : Bool). told ++ cond b (end_name ∷ []) []) (sym w.if-branch.true)
        | else-branch w ↦ ap (λ t. texts t.items) w.names-is ∙ with-keywords ∙ sym (append-nil told) ∙ ap (λ (b : Bool). told ++ cond b (end_name ∷ []) []) (sym w.if-branch.false)
      ];
    }
