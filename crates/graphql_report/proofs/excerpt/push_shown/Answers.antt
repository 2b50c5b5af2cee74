use Rattle.std.proofs.Common.{◌≡◌, ℕ, List, ◌++◌, map, map-id, sym, ap, ◌∙◌, append_assoc}
use Rattle.std.specs.Char.{encode_utf8}
use Rattle.std.specs.Str.{chars, encode_utf8_all}
use Rattle.std.specs.String.{string_bytes}
use Rattle.std.proofs.lemmas.Iterator.{YieldsList-from_chars}
use Rattle.std.proofs.lemmas.Iterator.Consumers.{YieldsList-end}
use Rattle.graphql_report.specs.reports.Words.{shown_for}
use Rattle.graphql_report.proofs.WordLists.{shown-more}
use Rattle.graphql_report.proofs.excerpt.push_shown.Goals as goal

pub loop-c-preserved : goal.loop-c-preserved
loop-c-preserved c =
    c.in_ok-push.ensures.bytes ∙ ap (λ (l : List ℕ). l ++ encode_utf8 c.shown.result) c.loop-c.invariant ∙ append_assoc (string_bytes c.args.out.now) (encode_utf8_all (map shown_for c.loop-c.yielded)) (encode_utf8 c.shown.result)
    ∙ ap (λ (l : List ℕ). string_bytes c.args.out.now ++ l) (sym (shown-more c.loop-c.yielded c.in-Some.c c.shown.result c.shown.ensures))

pub returns : goal.returns
returns c =
    let is : c.loop-c.yielded ≡ chars c.args.text.now = sym (map-id c.loop-c.yielded) ∙ (YieldsList-end (YieldsList-from_chars c.args.text.now c.utf8.text cc) c.loop-c.yielded _ c.loop-c.yielded_by _ _ c.in-None.is c.next.ensures.steps).0 in
    c.loop-c.invariant ∙ ap (λ (l : List ℕ). string_bytes c.args.out.now ++ encode_utf8_all (map shown_for l)) is
