use Rattle.std.proofs.Common.{◌≡◌, ◌+◌, [], length}
use Rattle.graphql_parser.specs.RequestHeads.{head_of, in_heads}
use Rattle.graphql_reading.proofs.Loops.{Kept}
use Rattle.graphql_reading.specs.reading.Outcome.{mapped_at}
use Rattle.graphql_requests.specs.reading.Request.{definition_first, definition_at}
use Rattle.graphql_reading.specs.reading.Funds.{Spares}
use Rattle.graphql_parser.specs.HeadFunds.{heads_bytes, heads_credit}
use Rattle.graphql_parser.specs.declared.check.definitions.Head.{Head}
use Rattle.smallvec.specs.SmallVec.{SmallVec}
use Rattle.graphql_parser.specs.OneDefinition.{FirstStandsAlone}
use Rattle.graphql_reading.specs.reading.Ahead.{Ahead, tokens}
use Rattle.graphql_parser.proofs.check.definitions.read_heads.Given as goal

-- as long as no second head may come, nothing was read, and there is a place for the first
abbrev pub NoneYet : SmallVec Head → Ahead → Ahead → Type 0
NoneYet heads old new = (heads.items ≡ []) × (heads.capacity ≡ 1) × (new.memory ≡ old.memory) × (tokens new ≡ tokens old)

abbrev pub invariant-loop-heads : goal.invariant-loop-heads
invariant-loop-heads l = Kept definition_first (mapped_at head_of (definition_at l.limits)) l.fn.parser l.parser (in_heads l.heads)
    × (FirstStandsAlone l.limits (tokens l.fn.parser) → NoneYet l.heads l.fn.parser l.parser)
    × Spares (heads_bytes l.heads.items + heads_credit l.heads) l.fn.parser l.parser

abbrev pub decreases-loop-heads : goal.decreases-loop-heads
decreases-loop-heads l = length l.parser.after
