use Rattle.std.proofs.Common.{sym, ◌∙◌, arith}
use Rattle.graphql_printer.proofs.Lanes.{goes_on, stops}
use Rattle.graphql_printer.proofs.scans.are_all.Goals as goal

pub returns-then-outsiders-ne0 : goal.returns-then-outsiders-ne0
returns-then-outsiders-ne0 g c = sym (stops g.C.ByteClass.has c.args.bytes.now c.loop-at.at 8 (omega (arith, c.outsiders.ensures))) ∙ c.loop-at.invariant.0

pub loop-at-preserved : goal.loop-at-preserved
loop-at-preserved g c = (goes_on g.C.ByteClass.has c.args.bytes.now c.loop-at.at 8 (omega (arith, c.outsiders.ensures)) ∙ c.loop-at.invariant.0, omega arith)
