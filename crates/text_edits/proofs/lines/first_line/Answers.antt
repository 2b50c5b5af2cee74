use Rattle.std.proofs.Common.{◌≡◌, ◌-◌, take, sym, ap, ◌∙◌, arith}
use Rattle.std.specs.Str.{chars}
use Rattle.text_edits.proofs.Cuts.{found, found_none, content_here}
use Rattle.text_edits.proofs.FirstLines.{content_all}
use Rattle.text_edits.proofs.lines.first_line.Goals as goal

pub returns-in-None : goal.returns-in-None
returns-in-None c = sym (content_all _ (found_none c.args.text.now c.as_bytes.result.now c.utf8.text c.as_bytes.ensures.value c.in-None.ensures))

pub returns-in-Some : goal.returns-in-Some
returns-in-Some c =
    let same : c.in-Some.end - 0 ≡ c.in-Some.end = omega arith in
    ap chars c.range.ensures.value ∙ ap (λ n. chars (take n c.args.text.now)) same ∙ content_here c.args.text.now c.in-Some.end c.utf8.text (found c.args.text.now c.as_bytes.result.now c.in-Some.end c.as_bytes.ensures.value c.in-Some.ensures)
