use Rattle.std.proofs.Common.{◌≡◌, ◌∙◌, true, false, refl, arith}
use Rattle.graphql_grammar.proofs.FieldPlaces.{put-at-place, put-at-end}
use Rattle.graphql_grammar.proofs.value.fields.put_at.Goals as goal

pub returns-in-Some-clause-put : goal.returns-in-Some-clause-put
returns-in-Some-clause-put g c = put-at-place c.args.merged.now.items c.args.field c.in-Some.first.now c.args.place c.requires.place (omega (arith, c.in-Some.ensures.variant.0 refl, c.args.merged.now.ok)) c.in-Some.ensures.value

pub returns-in_ok-push-in-None-clause-put : goal.returns-in_ok-push-in-None-clause-put
returns-in_ok-push-in-None-clause-put g c = (c.in_ok-push-in-None.ensures).items ∙ put-at-end c.args.merged.now.items c.args.field c.args.place c.requires.place (λ k. differ (c.in-None.ensures.variant.1 (omega (arith, k, c.args.merged.now.ok))))
  where
    differ : false ≡ true → ⊥
    differ e = cc
