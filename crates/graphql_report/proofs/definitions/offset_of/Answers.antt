use Rattle.std.proofs.Common.{refl, sym, ◌∙◌, subst}
use Rattle.std.proofs.lemmas.Bool.{false≢true}
use Rattle.graphql_tokens.specs.tokens.Cuts.{IsCutInto}
use Rattle.graphql_tokens.specs.tokens.Token.{Lexing, left}
use Rattle.graphql_tokens.specs.tokens.Seen.{seen}
use Rattle.graphql_report.proofs.TokensOf.{begun, passed, there, found, ended}
use Rattle.graphql_report.proofs.definitions.offset_of.Goals as goal

pub loop-token-init : goal.loop-token-init
loop-token-init c = begun c.args.text.now c.args.place (left c.into_iter-token-iterator.result) _ (subst (λ (l : Lexing). IsCutInto c.args.text.now (left l)) (sym c.into_iter-token-iterator.ensures.into_iter_gives) c.new-token-items.ensures.cut) refl

pub loop-token-preserved : goal.loop-token-preserved
loop-token-preserved c = passed c.args.text.now c.args.place _ _ (seen c.in-Some.token) _ c.loop-token.invariant c.in-Some.ensures.steps.0 (λ at. false≢true (sym c.if-stands_at.false ∙ c.stands_at.ensures.1 at))

pub loop-token-preserved-then-stands_at : goal.loop-token-preserved-then-stands_at
loop-token-preserved-then-stands_at c = found c.args.text.now c.args.place _ _ (seen c.in-Some.token) _ c.loop-token.invariant c.in-Some.ensures.steps.0 (c.stands_at.ensures.0 c.if-stands_at.true)

pub returns-then-token-start : goal.returns-then-token-start
returns-then-token-start c = there c.args.text.now c.args.place _ _ (seen c.in-Some.token) _ c.loop-token.invariant c.in-Some.ensures.steps.0 (c.stands_at.ensures.0 c.if-stands_at.true)

pub returns : goal.returns
returns c = ended c.args.text.now c.args.place _ _ c.loop-token.invariant c.in-None.ensures.steps.0.0
