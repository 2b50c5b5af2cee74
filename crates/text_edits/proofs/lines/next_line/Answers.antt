use Rattle.std.proofs.Common.{◌≡◌, ℕ, ◌+◌, List, get_or, sym, ap, ◌∙◌}
use Rattle.std.proofs.lemmas.Bool.{eqb-true, eqb-false}
use Rattle.text_edits.proofs.Cuts.{found, found_none, ends_in_feed, ends_in_both, ends_in_return, byte_there}
use Rattle.text_edits.proofs.FirstLines.{lines_all}
use Rattle.text_edits.proofs.lines.next_line.Goals as goal

pub returns-in-None : goal.returns-in-None
returns-in-None c = lines_all _ (found_none c.args.text.now c.as_bytes-bytes.result.now c.utf8.text c.as_bytes-bytes.ensures.value c.in-None.ensures)

pub returns-then-bytes-end-eq10 : goal.returns-then-bytes-end-eq10
returns-then-bytes-end-eq10 c =
    let same : c.as_bytes-bytes.result.now ≡ c.args.text.now = c.as_bytes-bytes.ensures.value in
    ends_in_feed c.args.text.now c.in-Some.end c.utf8.text (found c.args.text.now c.as_bytes-bytes.result.now c.in-Some.end same c.in-Some.ensures)
    (ap (λ (l : List ℕ). get_or l c.in-Some.end 0) (sym same) ∙ c.if-bytes-end-eq10.true)

pub returns-then-is_line_feed : goal.returns-then-is_line_feed
returns-then-is_line_feed c =
    let same : c.as_bytes-bytes.result.now ≡ c.args.text.now = c.as_bytes-bytes.ensures.value in
    let after : get_or c.args.text.now (c.in-Some.end + 1) 0 ≡ 10 = ap (λ (l : List ℕ). get_or l (c.in-Some.end + 1) 0) (sym same) ∙ eqb-true _ 10 (sym c.if-is_line_feed.ensures) in
    ends_in_both c.args.text.now c.in-Some.end c.utf8.text (found c.args.text.now c.as_bytes-bytes.result.now c.in-Some.end same c.in-Some.ensures)
    (λ h. c.if-bytes-end-eq10.false (ap (λ (l : List ℕ). get_or l c.in-Some.end 0) same ∙ h)) (byte_there c.args.text.now (c.in-Some.end + 1) after) after

pub returns-else-is_line_feed : goal.returns-else-is_line_feed
returns-else-is_line_feed c =
    let same : c.as_bytes-bytes.result.now ≡ c.args.text.now = c.as_bytes-bytes.ensures.value in
    ends_in_return c.args.text.now c.in-Some.end c.utf8.text (found c.args.text.now c.as_bytes-bytes.result.now c.in-Some.end same c.in-Some.ensures)
    (λ h. c.if-bytes-end-eq10.false (ap (λ (l : List ℕ). get_or l c.in-Some.end 0) same ∙ h))
    (λ h. eqb-false _ 10 (sym c.if-is_line_feed.ensures) (ap (λ (l : List ℕ). get_or l (c.in-Some.end + 1) 0) same ∙ h))
