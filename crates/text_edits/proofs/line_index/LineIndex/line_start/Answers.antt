use Rattle.std.proofs.Common.{◌≡◌, ℕ, ◌<◌, ◌≤◌, ◌∙◌, List, length, get_or, sym, ap, subst}
use Rattle.text_edits.specs.Indexes.{starts_of}
use Rattle.text_edits.proofs.Indexes.{start_found, start_at_end}
use Rattle.text_edits.proofs.line_index.LineIndex.line_start.Goals as goal

pub returns-in-Some : goal.returns-in-Some
returns-in-Some c =
    let same : c.deref.result.now ≡ starts_of c.args.text.now = cc in
    let h = c.in-Some.ensures.lookup in
    start_found c.args.text.now c.args.line c.in-Some.start.now c.utf8.text (subst (λ (l : List ℕ). c.args.line < length l) same h.3.0) (ap (λ (l : List ℕ). get_or l c.args.line 0) (sym same) ∙ sym (h.3.1 0))

pub returns-in-None : goal.returns-in-None
returns-in-None c =
    let same : c.deref.result.now ≡ starts_of c.args.text.now = cc in
    let h = c.in-None.ensures.lookup in
    start_at_end c.args.text.now c.args.line c.utf8.text (subst (λ (l : List ℕ). length l ≤ c.args.line) same h.3)
