use Rattle.std.proofs.Common.{length, drop}
use Rattle.conformance_tools.proofs.bench.modes.look_over.Given as goal

abbrev pub decreases-loop-tokens : goal.decreases-loop-tokens
decreases-loop-tokens l = length (drop l.tokens.taken l.tokens.whole)
