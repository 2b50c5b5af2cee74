use Rattle.std.proofs.Common.{◌≡◌, sym, ap, ◌∙◌, arith}
use Rattle.std.specs.List.{prefix_len}
use Rattle.graphql_layout.specs.inner.Standing.{is_blank_byte}
use Rattle.graphql_layout.proofs.Aheads.{blanks_boundary, blanks_passed, comment_passed, then_passed, passed_long}
use Rattle.graphql_layout.proofs.comments.first_comment.Goals as goal

pub split_at-requires : goal.split_at-requires
split_at-requires c = blanks_boundary c.args.text.now c.blanks_of-blanks.result c.utf8.text (c.blanks_of-blanks.ensures.value ∙ ap (prefix_len is_blank_byte) c.as_bytes.ensures.value)

pub returns : goal.returns
returns c =
    let n : c.blanks_of-blanks.result ≡ prefix_len is_blank_byte c.args.text.now = c.blanks_of-blanks.ensures.value ∙ ap (prefix_len is_blank_byte) c.as_bytes.ensures.value in
    let blanks = blanks_passed c.args.text.now c.split_at.result.1.now c.blanks_of-blanks.result c.utf8.text n c.split_at.ensures.back in
    let first = comment_passed c.split_at.result.1.now c.split_line.result.1.now _ blanks.utf8 (sym c.begins_with_hash.ensures ∙ c.if-not-begins_with_hash.false) c.split_line.ensures in
    (then_passed c.args.text.now c.split_at.result.1.now c.split_line.result.1.now _ _ blanks first.passes, omega (arith, first.shorter, passed_long c.args.text.now c.split_at.result.1.now _ blanks))
