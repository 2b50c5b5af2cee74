use denote.Shadow.{shadow}
use denote.Text.{Utf8}
use Rattle.std.proofs.Common.{◌≡◌, [], length}
use Rattle.graphql_layout.specs.inner.Standing.{IsClear, StandsAt}
use Rattle.graphql_layout.proofs.Takings.{Reads}
use Rattle.graphql_layout.proofs.layout.format.Given as goal

abbrev pub invariant-tokens : goal.invariant-tokens
invariant-tokens l = shadow (Utf8 l.ahead.rest.now) × Reads l.fn.text l.ahead.rest.now l.sheet × StandsAt l.tokens l.ahead.rest.now × IsClear l.ahead.hash l.ahead.rest.now × (l.passed.items ≡ [])

abbrev pub decreases-tokens : goal.decreases-tokens
decreases-tokens l = length l.ahead.rest.now
