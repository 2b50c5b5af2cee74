use Rattle.std.proofs.Common.{sym, ◌∙◌}
use Rattle.graphql_layout.proofs.Trimmed.{bare_stays, trimmed_is}
use Rattle.graphql_layout.proofs.comments.without_blanks.Goals as goal

pub returns-then-ends_in_blank : goal.returns-then-ends_in_blank
returns-then-ends_in_blank c = trimmed_is c.args.comment.now c.trim_end_matches.result.now c.utf8.comment c.trim_end_matches.ensures.matches

pub returns : goal.returns
returns c = bare_stays c.args.comment.now c.utf8.comment (sym c.ends_in_blank.ensures ∙ c.if-ends_in_blank.false)
