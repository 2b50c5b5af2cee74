use Rattle.graphql_printer.proofs.Lanes.{last_tested}
use Rattle.graphql_printer.proofs.scans.are_last.Goals as goal

pub returns-then-bytes-ge-LANES : goal.returns-then-bytes-ge-LANES
returns-then-bytes-ge-LANES g c = last_tested g.C.ByteClass.has c.args.bytes.now c.args.from 8 c.outsiders.result c.if-bytes-ge-LANES.true c.requires.few c.requires.run c.outsiders.ensures
