use Rattle.std.proofs.Common.{◌≡◌, ℕ, List, drop, sym, ap, ◌∙◌}
use Rattle.std.specs.Str.{chars}
use Rattle.graphql_tokens.specs.inner.Numbers.{past_number}
use Rattle.graphql_tokens.specs.inner.Running.{ahead}
use Rattle.graphql_tokens.specs.declared.pos.running.RunningPlace.{RunningPlace}
use Rattle.graphql_tokens.proofs.NumberTexts.{number_passed, number_missed}
use Rattle.graphql_tokens.proofs.number.is_number.Goals as goal

-- at the start all is ahead
all_ahead : (text : List ℕ) (a : RunningPlace) → a.walk.text.now ≡ text → a.walk.offset ≡ 0 → chars text ≡ ahead a
all_ahead text a same start = sym (ap (λ k. chars (drop k a.walk.text.now)) start ∙ ap (λ t. chars (drop 0 t)) same)

pub returns-then-is_passed : goal.returns-then-is_passed
returns-then-is_passed c =
    let start = all_ahead c.args.text.now c.new-places.result c.new-places.ensures.text c.new-places.ensures.start in
    number_passed c.args.text.now (ahead c.pass_number-is_passed.new.places) c.has_more.result c.utf8.text
    (ap past_number start ∙ c.if-is_passed.ensures.rest) c.has_more.ensures.more c.has_more.ensures.end

pub returns-else-is_passed : goal.returns-else-is_passed
returns-else-is_passed c =
    let start = all_ahead c.args.text.now c.new-places.result c.new-places.ensures.text c.new-places.ensures.start in
    c.if-is_passed.false ∙ number_missed c.args.text.now (ap past_number start ∙ c.if-is_passed.ensures.rest)
