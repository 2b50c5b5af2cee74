use Rattle.std.proofs.Common.{ap, ◌∙◌}
use Rattle.std.specs.Str.{chars}
use Rattle.text_edits.specs.Positions.{position_of}
use Rattle.text_edits.proofs.Rounds.{position_back}
use Rattle.text_edits.proofs.line_index.LineIndex.offset_of.Goals as goal

pub returns-clause-back : goal.returns-clause-back
returns-clause-back c = λ is. ap (position_of c.args.encoding c.args.text.now) c.offset_on.ensures.value ∙ position_back c.args.encoding (chars c.args.text.now) c.args.position is
