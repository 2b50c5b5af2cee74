use Rattle.std.proofs.Common.{◌≡◌, ◌≤◌, ◌<◌, ℕ, List, cond, length, sym, ap, ◌∙◌, subst, arith}
use Rattle.std.specs.List.{prefix_len}
use Rattle.graphql_tokens.specs.tokens.BlockText.{is_blank_char}
use Rattle.graphql_tokens.specs.inner.Blocks.{trimmed, IsOneLine}
use Rattle.graphql_tokens.proofs.BlockOneLine.{is_unquoted, one-line}
use Rattle.graphql_tokens.proofs.text.block.one_line.Goals as goal
use Rattle.graphql_tokens.proofs.text.block.one_line.Goals.{then-loses_indent, else-loses_indent}

pub returns-clause-line : goal.returns-clause-line
returns-clause-line c =
    let bytes : List ℕ = c.as_bytes-bytes.result.now in
    let blanks : ℕ = c.past_blanks-blanks.result in
    let n : ℕ = c.if-loses_indent.dedented in
    let loses = c.args.loses_indent in
    let run : c.past_run.result ≡ prefix_len is_unquoted bytes = (let e = c.past_run.ensures.value in omega (arith, e)) in
    let all : length bytes ≤ prefix_len is_unquoted bytes = (let e = c.if-past_run-bytes.false in omega (arith, e, run)) in
    let is : blanks ≡ prefix_len is_blank_char bytes = (let e = c.past_blanks-blanks.ensures.value in omega (arith, e)) in
    let some : blanks < length bytes = (let e = c.if-blanks-bytes.false in let w = c.past_blanks-blanks.ensures.within in omega (arith, w)) in
    let cut : n ≡ cond loses blanks 0 = elim c.if-loses_indent.branch [
      | then-loses_indent w ↦ w.dedented-is ∙ ap (λ b. cond b blanks 0) (sym w.if-loses_indent.true)
      | else-loses_indent w ↦ w.dedented-is ∙ ap (λ b. cond b blanks 0) (sym w.if-loses_indent.false)
    ] in
    subst (λ (x : List ℕ). IsOneLine loses x c.dedented.result.now) c.as_bytes-bytes.ensures.value
    (one-line loses bytes c.dedented.result.now blanks n all is some cut (c.dedented.ensures.trimmed ∙ ap (trimmed n) (sym c.as_bytes-bytes.ensures.value)))
