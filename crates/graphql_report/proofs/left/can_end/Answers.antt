use Rattle.std.proofs.Common.{◌≡◌, [], ap, sym, ◌∙◌, arith}
use Rattle.std.proofs.lemmas.List.{nil_from_length}
use Rattle.std.proofs.lemmas.Bool.{eqb-true}
use Rattle.graphql_tokens.specs.tokens.Token.{Bare, Token}
use Rattle.graphql_reading.specs.grammar.Tests.{the_end}
use Rattle.graphql_reading.proofs.TokenTests.{the_end-is}
use Rattle.graphql_report.proofs.LeftTexts.{same-bytes, end-told, end-refused}
use Rattle.graphql_report.proofs.left.can_end.Goals as goal

pub returns-then-is_empty : goal.returns-then-is_empty
returns-then-is_empty c =
    let ends = ap (λ (t : Token). the_end t.bare) (sym c.hand-end.ensures.token) ∙ sym c.is_end.ensures ∙ c.if-not-is_end.false in
    let none : c.step.new.left.items ≡ [] = nil_from_length c.step.new.left.items (omega (arith, c.step.new.left.ok.0, eqb-true _ _ (sym c.is_empty.ensures ∙ c.if-is_empty.true))) in
    end-told c.args.limits c.args.left.now c.in_ok-left.left.items c.step.new.left.items c.new-parser.result.hand.bare c.in_ok-ends.ends c.in_ok-left.ensures
    (ap (λ (b : Bare). b.kind) (the_end-is c.new-parser.result.hand.bare ends))
    (ap (λ (t : Token). t.bare.spelling) (sym c.hand-end.ensures.token) ∙ same-bytes c.hand-end.result.text.now _ c.if-ne.ensures)
    none c.in_ok-ends.ensures

pub returns : goal.returns
returns c =
    let ends = ap (λ (t : Token). the_end t.bare) (sym c.hand-end.ensures.token) ∙ sym c.is_end.ensures ∙ c.if-not-is_end.false in
    end-refused c.args.limits c.args.left.now c.in_ok-left.left.items c.step.new.left.items c.new-parser.result.hand.bare c.in_ok-ends.ends c.if_false.result c.in_ok-left.ensures
    (ap (λ (b : Bare). b.kind) (the_end-is c.new-parser.result.hand.bare ends))
    (ap (λ (t : Token). t.bare.spelling) (sym c.hand-end.ensures.token) ∙ same-bytes c.hand-end.result.text.now _ c.if-ne.ensures)
    c.if_false.ensures c.in_ok-ends.ensures
