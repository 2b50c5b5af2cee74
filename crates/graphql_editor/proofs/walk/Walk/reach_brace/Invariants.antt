use Rattle.std.proofs.Common.{◌≡◌}
use Rattle.graphql_editor.proofs.walk.Walk.reach_brace.Given as goal

abbrev pub invariant-loop : goal.invariant-loop
invariant-loop l = (l.self.structure ≡ l.fn.self.structure) × (l.self.chain ≡ l.fn.self.chain)
