use Rattle.std.proofs.Common.{◌≡◌, length, drop}
use Rattle.std.specs.Str.{chars}
use Rattle.graphql_layout.specs.texts.Shortened.{has_margin}
use Rattle.graphql_layout.proofs.blocks.has_margin.Given as goal

abbrev pub invariant-loop-c : goal.invariant-loop-c
invariant-loop-c l = has_margin l.begins (drop (length l.yielded) (chars l.value)) ≡ has_margin l.fn.begins_line (chars l.value)
