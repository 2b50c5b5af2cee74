use Rattle.std.proofs.Common.{◌++◌, List, ℕ, [], ◌∷◌, ap, ◌∙◌, sym}
use Rattle.text_edits.specs.Starts.{starts_within}
use Rattle.text_edits.proofs.Within.{text_starts}
use Rattle.text_edits.proofs.line_index.LineIndex.new.Goals as goal

pub returns : goal.returns
returns c =
    c.in_ok-push_starts.ensures ∙ ap (λ (l : List ℕ). l ++ starts_within 0 c.as_bytes.result.now []) (c.in_ok-push.ensures.items ∙ ap (λ (l : List ℕ). l ++ 0 ∷ []) c.new-starts.ensures.items)
    ∙ ap (λ (l : List ℕ). 0 ∷ starts_within 0 l []) c.as_bytes.ensures.value ∙ sym (text_starts c.args.text.now c.utf8.text)
