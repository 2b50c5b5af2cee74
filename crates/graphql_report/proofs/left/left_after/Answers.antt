use Rattle.std.proofs.Common.{Bool, Option, sym, ap, ◌∙◌, subst}
use Rattle.std.specs.Prelude.{IfSome}
use Rattle.graphql_tokens.specs.tokens.Token.{Bare, Token}
use Rattle.graphql_reading.specs.grammar.Tests.{the_end}
use Rattle.graphql_reading.proofs.TokenTests.{the_end-is}
use Rattle.graphql_report.specs.inner.Left.{Steps}
use Rattle.graphql_report.proofs.LeftTexts.{walk-goes, walk-ends}
use Rattle.graphql_report.proofs.left.left_after.Goals as goal

pub loop-limits-preserved : goal.loop-limits-preserved
loop-limits-preserved c = walk-goes c.loop-limits.invariant c.advance.new.self c.step.new.left.items (subst (Steps c.args.limits c.loop-limits.parser.hand.bare c.loop-limits.left.items c.step.new.left.items) c.if-not-is_next.false (subst (λ (o : Option Bool). IfSome o (Steps c.args.limits c.loop-limits.parser.hand.bare c.loop-limits.left.items c.step.new.left.items)) c.in-Some.is c.in_ok-is_next.ensures)) c.advance.ensures.left

pub returns-then-is_end : goal.returns-then-is_end
returns-then-is_end c =
    let ends = ap (λ (t : Token). the_end t.bare) (sym c.hand-2.ensures.token) ∙ sym c.is_end.ensures ∙ c.if-is_end.true in
    walk-ends c.loop-limits.invariant (ap (λ (b : Bare). b.kind) (the_end-is c.loop-limits.parser.hand.bare ends))
