use Rattle.std.proofs.Common.{◌-◌, length, refl, arith}
use Rattle.std.specs.Str.Iter.{chars_rest}
use Rattle.graphql_report.proofs.StringTexts.{Cut, dropped-next, dropped-all, no-longer, cut-before, cut}
use Rattle.graphql_report.proofs.faults.split_chars.Goals as goal

pub loop-preserved : goal.loop-preserved
loop-preserved c = dropped-next c.args.text.now c.loop.rest c.next.new.self c.loop.counter c.next.result c.loop.invariant c.next.ensures.steps

pub overflow_sub-text : goal.overflow_sub-text
overflow_sub-text c = no-longer c.args.text.now c.as_str.result.now c.args.count c.utf8.text (dropped-all c.args.text.now (chars_rest c.loop.rest) c.as_str.result.now c.loop.counter c.args.count c.loop.invariant c.as_str.ensures (omega arith) (omega arith))

pub split_at-requires : goal.split_at-requires
split_at-requires c =
    cut-before c.args.text.now c.as_str.result.now c.args.count (length c.args.text.now - length c.as_str.result.now) c.utf8.text
    (dropped-all c.args.text.now (chars_rest c.loop.rest) c.as_str.result.now c.loop.counter c.args.count c.loop.invariant c.as_str.ensures (omega arith) (omega arith)) refl

is-cut : (c : goal.After-split_at) → Cut c.args.text.now c.split_at.result.0.now c.split_at.result.1.now c.args.count
is-cut c =
    cut c.args.text.now c.as_str.result.now c.split_at.result.0.now c.split_at.result.1.now c.args.count (length c.args.text.now - length c.as_str.result.now) c.utf8.text
    (dropped-all c.args.text.now (chars_rest c.loop.rest) c.as_str.result.now c.loop.counter c.args.count c.loop.invariant c.as_str.ensures (omega arith) (omega arith)) refl c.split_at.ensures.front c.split_at.ensures.back

pub returns-clause-split : goal.returns-clause-split
returns-clause-split c = (is-cut c).split

pub returns-clause-first : goal.returns-clause-first
returns-clause-first c = (is-cut c).first

pub returns-clause-utf8 : goal.returns-clause-utf8
returns-clause-utf8 c = (is-cut c).utf8
