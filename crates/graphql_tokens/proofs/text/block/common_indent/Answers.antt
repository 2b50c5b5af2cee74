use Rattle.std.proofs.Common.{◌<◌, length, ◌∙◌, arith}
use Rattle.graphql_tokens.proofs.BlockIndents.{indent_end, indent_more}
use Rattle.graphql_tokens.proofs.text.block.common_indent.Goals as goal

pub returns-then-end-bytes : goal.returns-then-end-bytes
returns-then-end-bytes c =
    c.unwrap_or.ensures ∙
    indent_end c.args.bytes.now c.lines.found c.next_indent-found.result c.lines.counts _ c.lines.start c.past_blanks-text.result c.past_line-end.result c.lines.invariant.within c.past_blanks-text.ensures.within
    c.past_blanks-text.ensures.value c.past_line-end.ensures.value c.if-end-bytes.true c.next_indent-found.ensures c.lines.invariant.indent

pub lines-preserved : goal.lines-preserved
lines-preserved c =
    let bs = c.args.bytes.now in
    let l : c.past_line-end.result < length bs = (let w = c.past_line-end.ensures.within in let n = c.if-end-bytes.false in omega arith) in
    record {
      within = c.next_line-start.ensures.within;
      indent = indent_more bs c.lines.found c.next_indent-found.result c.lines.counts _ c.lines.start c.past_blanks-text.result c.past_line-end.result c.next_line-start.result c.lines.invariant.within c.past_blanks-text.ensures.within
          c.past_blanks-text.ensures.value c.past_line-end.ensures.value l c.next_line-start.ensures.value c.next_indent-found.ensures c.lines.invariant.indent;
    }
