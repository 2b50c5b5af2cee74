use Rattle.std.proofs.Common.{subst, sym}
use Rattle.graphql_tokens.specs.tokens.Ignored.{IsComment}
use Rattle.graphql_layout.proofs.Trimmed.{trimmed_comment}
use Rattle.graphql_layout.proofs.Hashes.{each_at}
use Rattle.graphql_layout.proofs.layout.lines.push_comments.Goals as goal

pub comment-requires : goal.comment-requires
comment-requires c = subst IsComment (sym c.without_blanks.ensures) (trimmed_comment _ (each_at c.args.passed.now c.loop-at.at _ c.loop-at-test.true c.loop-at.invariant.1))
