use Rattle.std.proofs.Common.{refl, rules}
use Rattle.graphql_layout.proofs.Pushes.{blanks_pushed}
use Rattle.graphql_layout.proofs.sheet.push_levels.Goals as goal

pub loop-init : goal.loop-init
loop-init c = record { has = refl; sheet = c.requires }

pub returns-in_err-push_str : goal.returns-in_err-push_str
returns-in_err-push_str c = blanks_pushed c.push_str.result c.loop.text c.push_str.new.self _ _ c.loop.invariant (search rules) (search rules) c.push_str.ensures.bytes

pub loop-preserved : goal.loop-preserved
loop-preserved c = blanks_pushed c.push_str.result c.loop.text c.push_str.new.self _ _ c.loop.invariant (search rules) (search rules) c.push_str.ensures.bytes

pub loop-2-init : goal.loop-2-init
loop-2-init c = c.loop.invariant

pub returns-in_err-push_str-2 : goal.returns-in_err-push_str-2
returns-in_err-push_str-2 c = blanks_pushed c.push_str-in-loop-2.result c.loop-2.text c.push_str-in-loop-2.new.self _ _ c.loop-2.invariant (search rules) (search rules) c.push_str-in-loop-2.ensures.bytes

pub loop-2-preserved : goal.loop-2-preserved
loop-2-preserved c = blanks_pushed c.push_str-in-loop-2.result c.loop-2.text c.push_str-in-loop-2.new.self _ _ c.loop-2.invariant (search rules) (search rules) c.push_str-in-loop-2.ensures.bytes

pub returns : goal.returns
returns c = c.loop-2.invariant
