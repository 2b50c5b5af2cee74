use Rattle.std.proofs.Common.{ℕ, ◌<◌, ◌^◌, List, length, arith}
use Rattle.std.proofs.lemmas.Iterator.{YieldsList-from_chars}
use Rattle.std.proofs.lemmas.Iterator.Consumers.{YieldsList-turn, YieldsList-end}
use Rattle.std.specs.Str.{chars}
use Rattle.text_edits.proofs.CharLoops.{next_left, none_left}
use Rattle.text_edits.proofs.Widths.{counted_step, counted_stop, counted_end, width_fitting_le, width-chars}
use Rattle.text_edits.proofs.columns.converted.Goals as goal

pub loop-c-preserved : goal.loop-c-preserved
loop-c-preserved c =
    let t = YieldsList-turn (YieldsList-from_chars c.args.text.now c.utf8.text cc) c.loop-c.yielded _ c.loop-c.yielded_by _ _ c.in-Some.c c.in-Some.is c.next.ensures.steps in
    let cs : List ℕ = chars c.args.text.now in
    rw (c.units-wanted.ensures, c.units-converted.ensures)
    (counted_step c.args.from c.args.to c.loop-c.left c.in-Some.c c.loop-c.converted _ _ _ (next_left cs c.loop-c.yielded c.in-Some.c t) (omega (arith, c.units-wanted.ensures)) c.loop-c.invariant)

pub returns-then-left-wanted : goal.returns-then-left-wanted
returns-then-left-wanted c =
    let t = YieldsList-turn (YieldsList-from_chars c.args.text.now c.utf8.text cc) c.loop-c.yielded _ c.loop-c.yielded_by _ _ c.in-Some.c c.in-Some.is c.next.ensures.steps in
    let cs : List ℕ = chars c.args.text.now in
    counted_stop c.args.from c.args.to c.loop-c.left c.in-Some.c c.loop-c.converted _ _ _ (next_left cs c.loop-c.yielded c.in-Some.c t) (omega (arith, c.units-wanted.ensures)) c.loop-c.invariant

pub overflow_add-converted : goal.overflow_add-converted
overflow_add-converted c =
    let t = YieldsList-turn (YieldsList-from_chars c.args.text.now c.utf8.text cc) c.loop-c.yielded _ c.loop-c.yielded_by _ _ c.in-Some.c c.in-Some.is c.next.ensures.steps in
    let cs : List ℕ = chars c.args.text.now in
    let few : length c.args.text.now < 2 ^ 63 = omega arith in
    let step = counted_step c.args.from c.args.to c.loop-c.left c.in-Some.c c.loop-c.converted _ _ _ (next_left cs c.loop-c.yielded c.in-Some.c t) (omega (arith, c.units-wanted.ensures)) c.loop-c.invariant in
    omega (arith, few, step, c.units-converted.ensures, width_fitting_le c.args.from c.args.to c.args.count cs, width-chars c.args.text.now c.utf8.text)

pub returns : goal.returns
returns c =
    let t = YieldsList-end (YieldsList-from_chars c.args.text.now c.utf8.text cc) c.loop-c.yielded _ c.loop-c.yielded_by _ _ c.in-None.is c.next.ensures.steps in
    counted_end c.args.from c.args.to c.loop-c.left c.loop-c.converted _ _ (none_left (chars c.args.text.now) c.loop-c.yielded t.1) c.loop-c.invariant
