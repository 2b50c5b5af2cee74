use Rattle.std.proofs.Common.{◌+◌, sym, ap, subst, ◌∙◌}
use Rattle.std.specs.Str.{chars}
use Rattle.text_edits.specs.Positions.{offset_of, IsPosition}
use Rattle.text_edits.proofs.Backs.{back, back_in_end}
use Rattle.text_edits.proofs.Rounds.{is_position}
use Rattle.text_edits.proofs.line_index.LineIndex.position_of.Goals as goal

pub returns-clause-is : goal.returns-clause-is
returns-clause-is c = subst (IsPosition c.args.encoding c.args.text.now) (sym c.position_on.ensures) (is_position c.args.encoding (chars c.args.text.now) c.args.offset)

pub returns-clause-back : goal.returns-clause-back
returns-clause-back c = λ b free. ap (offset_of c.args.encoding c.args.text.now) c.position_on.ensures ∙ back c.args.encoding c.args.text.now c.args.offset c.utf8.text b free

pub returns-clause-in_line_end : goal.returns-clause-in_line_end
returns-clause-in_line_end c = λ i. ap (λ p. offset_of c.args.encoding c.args.text.now p + 1) c.position_on.ensures ∙ back_in_end c.args.encoding c.args.text.now c.args.offset i
