use Rattle.std.proofs.Common.{length}
use denote.Shadow.{shadow}
use denote.Text.{Utf8}
use Rattle.graphql_layout.specs.inner.Standing.{IsPassed}
use Rattle.graphql_layout.proofs.comments.pass_comments.Given as goal

abbrev pub invariant-loop-comment : goal.invariant-loop-comment
invariant-loop-comment l = shadow (Utf8 l.rest) × IsPassed l.fn.text l.passed.items l.rest

abbrev pub decreases-loop-comment : goal.decreases-loop-comment
decreases-loop-comment l = length l.rest
