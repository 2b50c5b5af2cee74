use Rattle.std.proofs.Common.{[], ◌∷◌, ◌++◌, length, drop, sym, ap, ◌∙◌}
use Rattle.std.proofs.lemmas.Iterator.{YieldsList-from_chars}
use Rattle.std.proofs.lemmas.Iterator.Consumers.{YieldsList-turn, YieldsList-end}
use Rattle.std.specs.Str.{chars}
use Rattle.graphql_layout.specs.texts.Blocks.{ends_in_mark}
use Rattle.graphql_layout.proofs.CharLoops.{next_left, none_left}
use Rattle.graphql_layout.proofs.blocks.ends_in_mark.Goals as goal

pub loop-c-preserved : goal.loop-c-preserved
loop-c-preserved c =
    let t = YieldsList-turn (YieldsList-from_chars c.args.value.now c.utf8.value cc) c.loop-c.yielded _ c.loop-c.yielded_by _ _ c.in-Some.c c.in-Some.is c.next.ensures.steps in
    ap (λ b. ends_in_mark b (drop (length (c.loop-c.yielded ++ c.in-Some.c ∷ [])) (chars c.args.value.now))) c.is_mark-ends.ensures ∙ sym (ap (ends_in_mark c.loop-c.ends) (next_left (chars c.args.value.now) c.loop-c.yielded c.in-Some.c t)) ∙ c.loop-c.invariant

pub returns : goal.returns
returns c =
    let t = YieldsList-end (YieldsList-from_chars c.args.value.now c.utf8.value cc) c.loop-c.yielded _ c.loop-c.yielded_by _ _ c.in-None.is c.next.ensures.steps in
    sym (ap (ends_in_mark c.loop-c.ends) (none_left (chars c.args.value.now) c.loop-c.yielded t.1)) ∙ c.loop-c.invariant
