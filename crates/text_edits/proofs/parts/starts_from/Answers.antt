use Rattle.std.proofs.Common.{◌≡◌, ◌++◌, List, ℕ, [], ◌∷◌, length, ap, ◌∙◌, sym, arith}
use Rattle.text_edits.specs.Starts.{start_after, starts_within}
use Rattle.text_edits.proofs.Within.{after_end, after_other, after_nothing}
use Rattle.text_edits.proofs.parts.starts_from.Goals.{then-at-gt0+then-ends_line+in_ok-push, else-at-gt0, else-at-gt0-via-then-at-gt0+else-ends_line, else-at-gt0-via-else-at-gt0}
use Rattle.text_edits.proofs.parts.starts_from.Goals as goal

pub returns : goal.returns
returns c =
    let front : List ℕ = c.args.front.now in
    let rest : List ℕ = c.args.new.now ++ c.args.back.now in
    let first : c.if-at-gt0.starts.items ≡ start_after 0 front rest =
    elim c.if-at-gt0.branch [
      | then-at-gt0+then-ends_line+in_ok-push w ↦ ap (λ v. v.items) w.starts-is ∙ w.in_ok-push.ensures.items ∙ ap (λ (l : List ℕ). l ++ length front ∷ []) c.new-starts.ensures.items ∙ sym (after_end front rest (omega arith) (sym w.ends_line.ensures ∙ w.if-ends_line.true))
      | else-at-gt0 w ↦ ap (λ v. v.items) w.starts-is ∙ c.new-starts.ensures.items ∙ sym (elim w.else-at-gt0.branch [
        | else-at-gt0-via-then-at-gt0+else-ends_line w' ↦ after_other front rest (omega arith) (sym w'.ends_line.ensures ∙ w'.if-ends_line.false)
        | else-at-gt0-via-else-at-gt0 w' ↦ after_nothing 0 front rest (omega arith)
      ])
    ] in
    c.in_ok-push_starts.ensures ∙ ap (λ (l : List ℕ). l ++ starts_within (length front) c.args.new.now c.args.back.now) first
