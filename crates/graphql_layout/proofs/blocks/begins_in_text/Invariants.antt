use Rattle.std.proofs.Common.{◌≡◌, length, drop}
use Rattle.std.specs.Str.{chars}
use Rattle.graphql_layout.specs.texts.Blocks.{begins_in_text}
use Rattle.graphql_layout.proofs.blocks.begins_in_text.Given as goal

abbrev pub invariant-loop-c : goal.invariant-loop-c
invariant-loop-c l = begins_in_text (drop (length l.yielded) (chars l.value)) ≡ begins_in_text (chars l.value)
