use Rattle.graphql_layout.proofs.FirstLines.{IsEnd, ended, first_line}
use Rattle.graphql_layout.proofs.comments.split_line.Goals as goal

pub split_at-requires : goal.split_at-requires
split_at-requires c =
    let end : IsEnd c.args.text.now c.line_length.result = ended c.args.text.now c.as_bytes.result.now c.line_length.result c.as_bytes.ensures.value c.line_length.ensures.value in
    end.boundary

pub returns : goal.returns
returns c =
    let end : IsEnd c.args.text.now c.line_length.result = ended c.args.text.now c.as_bytes.result.now c.line_length.result c.as_bytes.ensures.value c.line_length.ensures.value in
    first_line c.args.text.now c.split_at.result.0.now c.split_at.result.1.now c.line_length.result c.utf8.text end c.split_at.ensures.front c.split_at.ensures.back
