use Rattle.std.proofs.Common.{◌≡◌, false, length, drop}
use Rattle.std.specs.Str.{chars}
use Rattle.graphql_layout.specs.texts.Blocks.{ends_in_text}
use Rattle.graphql_layout.proofs.blocks.ends_in_text.Given as goal

abbrev pub invariant-loop-c : goal.invariant-loop-c
invariant-loop-c l = ends_in_text l.has_text (drop (length l.yielded) (chars l.value)) ≡ ends_in_text false (chars l.value)
