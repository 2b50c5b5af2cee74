use Rattle.std.proofs.Common.{sym, ◌∙◌}
use Rattle.graphql_layout.proofs.BlockTexts.{value_kept, value_specified, kept_value}
use Rattle.graphql_layout.proofs.blocks.may_be_block.Goals as goal

pub returns-clause-means : goal.returns-clause-means
returns-clause-means c = λ h. value_kept c.args.value.now c.utf8.value (sym c.keeps_lines.ensures ∙ h)

pub returns-clause-as_specified : goal.returns-clause-as_specified
returns-clause-as_specified c = λ h. value_specified c.args.value.now c.utf8.value (sym c.keeps_lines.ensures ∙ h)

pub returns-clause-only : goal.returns-clause-only
returns-clause-only c = λ indent some h. c.keeps_lines.ensures ∙ kept_value c.args.value.now c.utf8.value indent some h
