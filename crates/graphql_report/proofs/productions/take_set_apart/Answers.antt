use Rattle.std.proofs.Common.{◌≡◌, ◌-◌, refl, ap, arith}
use Rattle.graphql_report.specs.declared.phrases.Phrase.TheVariants as phrases
use Rattle.graphql_report.proofs.Apart.{either-always}
use Rattle.graphql_report.proofs.RequestProductions.{deep_set-productions, maybe_set-productions}
use Rattle.graphql_report.proofs.productions.take_set_apart.Goals as goal

pub returns-then-levels-eq0 : goal.returns-then-levels-eq0
returns-then-levels-eq0 c =
    let none : c.args.levels ≡ 0 = omega (arith, c.if-levels-eq0.true) in
    either-always c.args.parser.now.hand.bare _ _ _ _ _ _ _ _ c.either.result (ap phrases.MaybeSet none) c.either.ensures c.is_at_punct-is_there.ensures (λ limits. deep_set-productions limits c.args.parser.now.hand.bare)

pub returns : goal.returns
returns c = either-always c.args.parser.now.hand.bare _ _ (phrases.MaybeSet c.args.levels) (phrases.MaybeSet c.args.levels) _ _ _ _ c.either-2.result refl c.either-2.ensures c.is_at_punct-is_there.ensures (λ limits. maybe_set-productions limits c.args.parser.now.hand.bare c.args.levels (c.args.levels - 1) (omega (arith, c.if-levels-eq0.false)))
