use Rattle.std.proofs.Common.{[], ◌∷◌, ◌++◌, length, drop, sym, ap, ◌∙◌}
use Rattle.std.proofs.lemmas.Iterator.{YieldsList-from_chars}
use Rattle.std.proofs.lemmas.Iterator.Consumers.{YieldsList-turn, YieldsList-end}
use Rattle.std.specs.Str.{chars}
use Rattle.graphql_layout.specs.inner.Scans.{scanned}
use Rattle.graphql_layout.specs.declared.one_reading.Scan.{Scan}
use Rattle.graphql_layout.proofs.CharLoops.{next_left, none_left}
use Rattle.graphql_layout.proofs.one_reading.scan_lines.Goals as goal

pub loop-c-preserved : goal.loop-c-preserved
loop-c-preserved c =
    let t = YieldsList-turn (YieldsList-from_chars c.args.raw.now c.utf8.raw cc) c.loop-c.yielded _ c.loop-c.yielded_by _ _ c.in-Some.c c.in-Some.is c.next.ensures.steps in
    ap (λ (s : Scan). scanned s (drop (length (c.loop-c.yielded ++ c.in-Some.c ∷ [])) (chars c.args.raw.now))) c.after-scan.ensures
    ∙ sym (ap (scanned c.loop-c.scan) (next_left (chars c.args.raw.now) c.loop-c.yielded c.in-Some.c t)) ∙ c.loop-c.invariant

pub returns : goal.returns
returns c =
    let t = YieldsList-end (YieldsList-from_chars c.args.raw.now c.utf8.raw cc) c.loop-c.yielded _ c.loop-c.yielded_by _ _ c.in-None.is c.next.ensures.steps in
    sym (ap (scanned c.loop-c.scan) (none_left (chars c.args.raw.now) c.loop-c.yielded t.1)) ∙ c.loop-c.invariant
