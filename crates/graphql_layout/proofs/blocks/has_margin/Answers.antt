use Rattle.std.proofs.Common.{◌≡◌, ℕ, eqb, List, [], ◌∷◌, ◌++◌, length, drop, sym, ap, ◌∙◌}
use Rattle.std.proofs.lemmas.Iterator.{YieldsList-from_chars}
use Rattle.std.proofs.lemmas.Iterator.Consumers.{YieldsList-turn, YieldsList-end}
use Rattle.std.specs.Str.{chars}
use Rattle.graphql_layout.specs.texts.Shortened.{has_margin}
use Rattle.graphql_layout.proofs.BlockFlags.{margin_here, margin_inside, margin_blank}
use Rattle.graphql_layout.proofs.CharLoops.{next_left, none_left}
use Rattle.graphql_layout.proofs.blocks.has_margin.Goals as goal
use Rattle.graphql_layout.proofs.blocks.has_margin.Goals.{else-begins-via-then-begins+else-is_text, else-begins-via-else-begins}

pub loop-c-preserved : goal.loop-c-preserved
loop-c-preserved c =
    let t = YieldsList-turn (YieldsList-from_chars c.args.value.now c.utf8.value cc) c.loop-c.yielded _ c.loop-c.yielded_by _ _ c.in-Some.c c.in-Some.is c.next.ensures.steps in
    let cs : List ℕ = chars c.args.value.now in
    let rest : List ℕ = drop (length (c.loop-c.yielded ++ c.in-Some.c ∷ [])) cs in
    let more : has_margin c.loop-c.begins (c.in-Some.c ∷ rest) ≡ has_margin (eqb c.in-Some.c 10) rest = elim c.else-begins.branch [
      | else-begins-via-then-begins+else-is_text w ↦ margin_blank c.loop-c.begins c.in-Some.c rest w.is_text.result w.if-begins.true w.is_text.ensures w.if-is_text.false
      | else-begins-via-else-begins w ↦ margin_inside c.loop-c.begins c.in-Some.c rest w.if-begins.false
    ] in
    sym more ∙ sym (ap (has_margin c.loop-c.begins) (next_left cs c.loop-c.yielded c.in-Some.c t)) ∙ c.loop-c.invariant

pub returns-then-is_text : goal.returns-then-is_text
returns-then-is_text c =
    let t = YieldsList-turn (YieldsList-from_chars c.args.value.now c.utf8.value cc) c.loop-c.yielded _ c.loop-c.yielded_by _ _ c.in-Some.c c.in-Some.is c.next.ensures.steps in
    let cs : List ℕ = chars c.args.value.now in
    sym (margin_here c.loop-c.begins c.in-Some.c (drop (length (c.loop-c.yielded ++ c.in-Some.c ∷ [])) cs) c.is_text.result c.if-begins.true c.is_text.ensures c.if-is_text.true)
    ∙ sym (ap (has_margin c.loop-c.begins) (next_left cs c.loop-c.yielded c.in-Some.c t)) ∙ c.loop-c.invariant

pub returns : goal.returns
returns c =
    let t = YieldsList-end (YieldsList-from_chars c.args.value.now c.utf8.value cc) c.loop-c.yielded _ c.loop-c.yielded_by _ _ c.in-None.is c.next.ensures.steps in
    sym (ap (has_margin c.loop-c.begins) (none_left (chars c.args.value.now) c.loop-c.yielded t.1)) ∙ c.loop-c.invariant
