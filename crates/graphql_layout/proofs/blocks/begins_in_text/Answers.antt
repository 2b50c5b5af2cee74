use Rattle.std.proofs.Common.{ℕ, List, [], ◌∷◌, ◌++◌, length, drop, sym, ap, ◌∙◌}
use Rattle.std.proofs.lemmas.Iterator.{YieldsList-from_chars}
use Rattle.std.proofs.lemmas.Iterator.Consumers.{YieldsList-turn, YieldsList-end}
use Rattle.std.specs.Str.{chars}
use Rattle.graphql_layout.specs.texts.Blocks.{begins_in_text}
use Rattle.graphql_layout.proofs.BlockFlags.{blank_more, text_here}
use Rattle.graphql_layout.proofs.CharLoops.{next_left, none_left}
use Rattle.graphql_layout.proofs.blocks.begins_in_text.Goals as goal

pub loop-c-preserved : goal.loop-c-preserved
loop-c-preserved c =
    let t = YieldsList-turn (YieldsList-from_chars c.args.value.now c.utf8.value cc) c.loop-c.yielded _ c.loop-c.yielded_by _ _ c.in-Some.c c.in-Some.is c.next.ensures.steps in
    let cs : List ℕ = chars c.args.value.now in
    sym (blank_more c.in-Some.c (drop (length (c.loop-c.yielded ++ c.in-Some.c ∷ [])) cs) c.is_blank.result c.is_blank.ensures c.if-not-is_blank.false)
    ∙ sym (ap begins_in_text (next_left cs c.loop-c.yielded c.in-Some.c t)) ∙ c.loop-c.invariant

pub returns-then-not-is_blank : goal.returns-then-not-is_blank
returns-then-not-is_blank c =
    let t = YieldsList-turn (YieldsList-from_chars c.args.value.now c.utf8.value cc) c.loop-c.yielded _ c.loop-c.yielded_by _ _ c.in-Some.c c.in-Some.is c.next.ensures.steps in
    let cs : List ℕ = chars c.args.value.now in
    sym (text_here c.in-Some.c (drop (length (c.loop-c.yielded ++ c.in-Some.c ∷ [])) cs) c.is_blank.result c.is_blank.ensures c.if-not-is_blank.true)
    ∙ sym (ap begins_in_text (next_left cs c.loop-c.yielded c.in-Some.c t)) ∙ c.loop-c.invariant

pub returns : goal.returns
returns c =
    let t = YieldsList-end (YieldsList-from_chars c.args.value.now c.utf8.value cc) c.loop-c.yielded _ c.loop-c.yielded_by _ _ c.in-None.is c.next.ensures.steps in
    sym (ap begins_in_text (none_left (chars c.args.value.now) c.loop-c.yielded t.1)) ∙ c.loop-c.invariant
