use Rattle.std.proofs.Common.{get_or, refl, arith}
use Rattle.text_edits.proofs.Patches.{shifting_next}
use Rattle.text_edits.proofs.parts.shift.Goals as goal

pub loop-at-preserved : goal.loop-at-preserved
loop-at-preserved c =
    shifting_next c.args.first c.args.from c.args.to c.loop-at.at (get_or c.loop-at.starts c.loop-at.at 0) c.args.starts.now c.loop-at.starts c.loop-at.invariant (omega arith) (omega arith) refl
