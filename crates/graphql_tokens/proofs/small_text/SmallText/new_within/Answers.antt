use Rattle.std.proofs.Common.{◌≡◌, ◌∙◌, ◌-◌, take, drop, length, ap, sym, subst}
use Rattle.std.specs.Str.{IsUtf8}
use Rattle.std.proofs.lemmas.List.{length-take-le}
use Rattle.graphql_tokens.proofs.SmallTexts.{copied_front}
use Rattle.graphql_tokens.proofs.small_text.SmallText.new_within.Goals as goal

front : (c : goal.After-result-1) → take (length c.args.text.now) c.in-Some.bytes.now ≡ c.args.text.now
front c =
    copied_front c.args.text.now c.args.whole.now c.in-Some.bytes.now c.args.start 22 c.requires c.if-text-le-ROOM.true
    (c.in-Some.ensures.cases.same ∙ ap (λ w. take 22 (take (length w - c.args.start) (drop c.args.start w))) c.as_bytes.ensures.value)

pub invariant_of-result : goal.invariant_of-result
invariant_of-result c = (c.if-text-le-ROOM.true, ap length c.in-Some.ensures.cases.same ∙ length-take-le 22 _ c.in-Some.ensures.cases.enough, ∣ subst IsUtf8 (sym (front c)) c.utf8.text ∣₁)

pub returns-clause-text : goal.returns-clause-text
returns-clause-text c = front c
