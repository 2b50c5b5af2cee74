use Rattle.std.proofs.Common.{rules, ◌≡◌, ◌-◌, length, ap, ◌∙◌}
use Rattle.std.specs.Str.{chars}
use Rattle.text_edits.specs.Indexes.{starts_of}
use Rattle.text_edits.specs.Lines.{lines}
use Rattle.text_edits.proofs.Indexes.{length-line_starts}
use Rattle.text_edits.proofs.document.Document.lines_ended.Goals as goal

pub returns : goal.returns
returns c =
    let less : c.saturating_sub.result ≡ c.lines.result - 1 = search rules in
    let many : c.lines.result ≡ length (starts_of c.args.self.now) = cc in
    less ∙ ap (λ k. k - 1) (many ∙ length-line_starts 0 (lines (chars c.args.self.now)))
