use Rattle.std.proofs.Common.{◌≡◌, ◌≤◌, ◌<◌, ◌^◌, ℕ, List, ◌++◌, length, map, take, map-id, arith, sym, ap, ◌∙◌, append_assoc}
use Rattle.std.specs.Prelude.{codes}
use Rattle.std.specs.Char.{encode_utf8}
use Rattle.std.specs.Str.{chars, encode_utf8_all}
use Rattle.std.specs.String.{string_bytes}
use Rattle.std.proofs.lemmas.Iterator.{YieldsList-from_chars, YieldsList-from_take}
use Rattle.std.proofs.lemmas.Iterator.Consumers.{YieldsList-end}
use Rattle.graphql_report.specs.reports.Words.{shown_for}
use Rattle.graphql_report.proofs.WordLists.{bytes-more, cut-all, cut-some, few-bytes, many-bytes, shown-more}
use Rattle.graphql_report.proofs.words.push_cut.Goals as goal
use Rattle.graphql_report.proofs.words.push_cut.Goals.{In-None}

pub loop-c-preserved : goal.loop-c-preserved
loop-c-preserved c = record {
  passed = omega (arith, c.loop-c.invariant.passed, bytes-more c.loop-c.yielded c.in-Some.c, c.len_utf8.ensures.len, c.saturating_add-passed.ensures);
  told = c.in_ok-push.ensures.bytes ∙ ap (λ (l : List ℕ). l ++ encode_utf8 c.shown.result) c.loop-c.invariant.told ∙ append_assoc (string_bytes c.args.out.now) (encode_utf8_all (map shown_for c.loop-c.yielded)) (encode_utf8 c.shown.result) ∙ ap (λ (l : List ℕ). string_bytes c.args.out.now ++ l) (sym (shown-more c.loop-c.yielded c.in-Some.c c.shown.result c.shown.ensures));
}

front : (c : In-None) → c.loop-c.yielded ≡ take 30 (chars c.args.text.now)
front c = sym (map-id c.loop-c.yielded) ∙ (YieldsList-end (YieldsList-from_take 30 (YieldsList-from_chars c.args.text.now c.utf8.text cc) cc) c.loop-c.yielded _ c.loop-c.yielded_by _ _ c.in-None.is c.next.ensures.steps).0

pub returns-in_ok-push_str : goal.returns-in_ok-push_str
returns-in_ok-push_str c =
    let is = front (goal.at.returns-in_ok-push_str c).In-None in
    let short : length c.args.text.now < 2 ^ 63 = omega arith in
    let more : 30 < length (chars c.args.text.now) = many-bytes c.args.text.now c.loop-c.yielded c.loop-c.passed short c.utf8.text is c.loop-c.invariant.passed c.if-passed-text.true in
    c.in_ok-push_str.ensures.bytes ∙ ap (λ (l : List ℕ). l ++ codes "...") c.loop-c.invariant.told ∙ append_assoc (string_bytes c.args.out.now) (encode_utf8_all (map shown_for c.loop-c.yielded)) (codes "...")
    ∙ ap (λ (l : List ℕ). string_bytes c.args.out.now ++ l) (sym (cut-some c.args.text.now c.loop-c.yielded is more))

pub returns-else-passed-text : goal.returns-else-passed-text
returns-else-passed-text c =
    let is = front (goal.at.returns-else-passed-text c).In-None in
    let few : length (chars c.args.text.now) ≤ 30 = few-bytes c.args.text.now c.loop-c.yielded c.loop-c.passed c.utf8.text is c.loop-c.invariant.passed c.if-passed-text.false in
    c.loop-c.invariant.told ∙ ap (λ (l : List ℕ). string_bytes c.args.out.now ++ l) (sym (cut-all c.args.text.now c.loop-c.yielded is few))
