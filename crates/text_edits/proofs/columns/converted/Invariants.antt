use Rattle.std.proofs.Common.{◌≡◌, ◌+◌, length, drop}
use Rattle.std.specs.Str.{chars}
use Rattle.text_edits.specs.Units.{width, fitting}
use Rattle.text_edits.proofs.columns.converted.Given as goal

abbrev pub invariant-loop-c : goal.invariant-loop-c
invariant-loop-c l =
    l.converted + width l.to (fitting l.from l.left (drop (length l.yielded) (chars l.text))) ≡ width l.to (fitting l.from l.fn.count (chars l.text))
