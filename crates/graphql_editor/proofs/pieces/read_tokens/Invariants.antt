use Rattle.std.proofs.Common.{◌≡◌}
use Rattle.graphql_editor.proofs.pieces.read_tokens.Given as goal

abbrev pub invariant-loop-token : goal.invariant-loop-token
invariant-loop-token l =
    (goal.iterator-loop-token).can_next l.token-iterator
    × (goal.iterator-loop-token).is_finite l.token-iterator
    × (l.walk.structure ≡ l.fn.walk.structure)
    × (l.walk.chain ≡ l.fn.walk.chain)
