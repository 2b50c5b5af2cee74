use denote.Shadow.{shadow}
use denote.Text.{Utf8}
use Rattle.std.proofs.Common.{length}
use Rattle.graphql_layout.proofs.Hashes.{Passes}
use Rattle.graphql_layout.proofs.comments.pass_gap.Given as goal

abbrev pub invariant-loop-blanks : goal.invariant-loop-blanks
invariant-loop-blanks l = shadow (Utf8 l.rest) × Passes l.fn.gap l.rest l.fn.passed.items l.passed.items

abbrev pub decreases-loop-blanks : goal.decreases-loop-blanks
decreases-loop-blanks l = length l.rest
