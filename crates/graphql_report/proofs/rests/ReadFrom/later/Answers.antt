use Rattle.std.proofs.Common.{◌<◌, ◌^◌, length, refl, arith}
use Rattle.graphql_report.proofs.LaterLines.{Passes, line-fits, begins-there}
use Rattle.graphql_report.proofs.rests.ReadFrom.later.Goals as goal

passes : (c : goal.After-struct_known-1) → Passes c.args.text.now c.in_ok-front.front.now c.in_ok-passed.passed.now c.args.self.offset c.args.offset c.args.self.line
passes c = record {
  utf8 = c.utf8.text;
  front_is = c.in_ok-front.ensures.front;
  boundary = c.in_ok-front.ensures.variant.0 refl;
  passed_is = c.in_ok-passed.ensures.back;
  inner = c.in_ok-passed.ensures.variant.0 refl;
  within = omega (arith, c.in_ok-passed.ensures.back_len, c.in_ok-front.ensures.front_len);
  known = c.requires.1;
}

pub overflow_add-line : goal.overflow_add-line
overflow_add-line c =
    let few : length c.args.text.now < 2 ^ 63 = omega arith in
    let short : length c.in_ok-front.front.now < 2 ^ 63 = omega (arith, few, c.in_ok-front.ensures.front_len, (c.in_ok-front.ensures.variant.0 refl).0) in
    omega (arith, line-fits c.args.text.now c.in_ok-front.front.now c.in_ok-passed.passed.now c.args.self.offset c.args.offset c.args.self.line c.line_feeds.result (passes c) c.line_feeds.ensures short)

pub returns : goal.returns
returns c = (refl, (c.in_ok-front.ensures.variant.0 refl, begins-there c.args.text.now c.in_ok-front.front.now c.in_ok-passed.passed.now c.args.self.offset c.args.offset c.args.self.line c.line_feeds.result (passes c) c.line_feeds.ensures (c.ends_line.ensures c.if-not-ends_line.false)))
