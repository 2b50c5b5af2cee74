use denote.Text.{Utf8}
use denote.Shadow.{shadow}
use Rattle.std.proofs.Common.{◌≡◌, false, true, length}
use Rattle.std.specs.Str.{chars}
use Rattle.graphql_layout.specs.inner.Scans.{has_blank_line}
use Rattle.graphql_layout.proofs.one_reading.has_blank_line.Given as goal

abbrev pub invariant-lines : goal.invariant-lines
invariant-lines l = shadow (Utf8 l.text) × (has_blank_line true false (chars l.text) ≡ false → has_blank_line true false (chars l.raw) ≡ false)

abbrev pub decreases-lines : goal.decreases-lines
decreases-lines l = length l.text
