use Rattle.std.proofs.Common.{rules}
use Rattle.example_checker.proofs.costs.round.Goals as goal

pub loop-fragment-init : goal.loop-fragment-init
loop-fragment-init c = (tt, tt, rw c.new-next.ensures.items (first_of (cc, search rules)))
