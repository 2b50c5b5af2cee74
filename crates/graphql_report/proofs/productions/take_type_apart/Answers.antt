use Rattle.std.proofs.Common.{◌≡◌, ◌-◌, ◌∙◌, sym, refl, ap, arith}
use Rattle.graphql_report.specs.declared.phrases.Phrase.TheVariants as phrases
use Rattle.graphql_report.proofs.Apart.{put-always, either-always}
use Rattle.graphql_report.proofs.ValueProductions.{named-productions, deep_type-productions, list_type-productions}
use Rattle.graphql_report.proofs.productions.take_type_apart.Goals as goal

pub returns-then-is_at_name : goal.returns-then-is_at_name
returns-then-is_at_name c = put-always c.args.parser.now.hand.bare c.args.left.now.items c.put.new.left.items _ _ _ c.put.result refl c.put.ensures (λ limits. named-productions limits c.args.parser.now.hand.bare c.args.levels (sym c.is_at_name.ensures ∙ c.if-is_at_name.true))

pub returns-then-levels-eq0 : goal.returns-then-levels-eq0
returns-then-levels-eq0 c =
    let none : c.args.levels ≡ 0 = omega (arith, c.if-levels-eq0.true) in
    either-always c.args.parser.now.hand.bare _ _ _ _ _ _ _ _ c.either.result (ap phrases.Type none) c.either.ensures c.is_at_punct.ensures (λ limits. deep_type-productions limits c.args.parser.now.hand.bare (sym c.is_at_name.ensures ∙ c.if-is_at_name.false))

pub returns : goal.returns
returns c = put-always c.args.parser.now.hand.bare c.args.left.now.items c.put-2.new.left.items (phrases.Type c.args.levels) _ _ c.put-2.result refl c.put-2.ensures (λ limits. list_type-productions limits c.args.parser.now.hand.bare c.args.levels (c.args.levels - 1) (omega (arith, c.if-levels-eq0.false)) (sym c.is_at_name.ensures ∙ c.if-is_at_name.false))
