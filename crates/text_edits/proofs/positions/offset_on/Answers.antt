use Rattle.std.proofs.Common.{◌<◌, ◌^◌, length, arith}
use Rattle.text_edits.proofs.Boundaries.{boundary_on_line}
use Rattle.text_edits.proofs.positions.offset_on.Goals as goal

pub overflow_add-result : goal.overflow_add-result
overflow_add-result c =
    let few : length c.args.text.now < 2 ^ 63 = omega arith in
    let there = boundary_on_line c.args.text.now c.range_from.result.now c.first_line-content.result.now c.args.line.start c.args.character c.converted.result c.args.encoding c.utf8.text c.requires.boundary c.range_from.ensures.value c.first_line-content.ensures c.converted.ensures in
    omega (arith, few, there.0)

pub returns-clause-boundary : goal.returns-clause-boundary
returns-clause-boundary c =
    boundary_on_line c.args.text.now c.range_from.result.now c.first_line-content.result.now c.args.line.start c.args.character c.converted.result c.args.encoding c.utf8.text c.requires.boundary c.range_from.ensures.value c.first_line-content.ensures c.converted.ensures
