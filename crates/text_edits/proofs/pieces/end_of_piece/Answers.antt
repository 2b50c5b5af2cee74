use Rattle.std.proofs.Common.{◌+◌}
use Rattle.text_edits.proofs.InPieces.{piece_end, first_feed}
use Rattle.text_edits.proofs.pieces.end_of_piece.Goals as goal

pub returns : goal.returns
returns c = piece_end c.args.text.now (4096 + c.in_ok-found.found) c.utf8.text (first_feed c.args.text.now c.as_bytes.result.now 4096 c.in_ok-found.found c.as_bytes.ensures.value c.in_ok-found.ensures)
