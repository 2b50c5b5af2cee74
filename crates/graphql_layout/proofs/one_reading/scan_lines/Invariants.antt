use Rattle.std.proofs.Common.{◌≡◌, length, drop}
use Rattle.std.specs.Str.{chars}
use Rattle.graphql_layout.specs.inner.Scans.{scanned, scan}
use Rattle.graphql_layout.proofs.one_reading.scan_lines.Given as goal

abbrev pub invariant-loop-c : goal.invariant-loop-c
invariant-loop-c l = scanned l.scan (drop (length l.yielded) (chars l.raw)) ≡ scan l.most (chars l.raw)
