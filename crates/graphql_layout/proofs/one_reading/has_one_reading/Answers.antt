use Rattle.std.proofs.Common.{◌≡◌, false, not, ap, ◌∙◌}
use Rattle.std.specs.Str.{chars}
use Rattle.graphql_layout.specs.declared.one_reading.Scan.{Scan}
use Rattle.graphql_layout.specs.inner.Scans.{scan}
use Rattle.graphql_layout.proofs.OneReadings.{told_by_lines, told_by_scans}
use Rattle.graphql_layout.proofs.one_reading.has_one_reading.Goals as goal

pub returns-then-not-has_blank_line : goal.returns-then-not-has_blank_line
returns-then-not-has_blank_line c =
    let none : c.has_blank_line.result ≡ false = cc in
    ap not none ∙ told_by_lines c.args.raw.now c.utf8.raw (c.has_blank_line.ensures none)

pub returns-else-not-has_blank_line : goal.returns-else-not-has_blank_line
returns-else-not-has_blank_line c =
    let raw = c.args.raw.now in
    ap (λ (s : Scan). not s.is_cut) (c.scan_lines-else-not-has_blank_line.ensures ∙ ap (λ (s : Scan). scan s.indent (chars c.args.raw.now)) c.scan_lines.ensures) ∙ told_by_scans c.args.raw.now c.utf8.raw
