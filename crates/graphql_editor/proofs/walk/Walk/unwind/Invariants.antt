use Rattle.std.proofs.Common.{◌≡◌}
use Rattle.graphql_editor.proofs.walk.Walk.unwind.Given as goal

abbrev pub invariant-loop : goal.invariant-loop
invariant-loop l = (l.self.structure ≡ l.fn.self.structure) × (l.self.chain ≡ l.fn.self.chain)
