use Rattle.std.proofs.Common.{ap, sym, ◌∙◌}
use Rattle.graphql_tokens.specs.tokens.Cuts.{is_last}
use Rattle.graphql_tokens.specs.tokens.Token.{Token}
use Rattle.graphql_report.proofs.LeftTexts.{step-told, same-bytes}
use Rattle.graphql_report.proofs.left.can_go_on.Goals as goal

pub returns : goal.returns
returns c =
    let inner = ap (λ (t : Token). is_last t.bare.kind) (sym c.hand-token.ensures.token) ∙ sym c.is_last.ensures ∙ c.if-is_last.false in
    step-told c.args.limits c.args.left.now c.in_ok-left.left.items c.step.new.left.items c.args.sample.now c.new-parser.result.hand c.step.result c.in_ok-left.ensures inner (c.hand-token.ensures.proper inner)
    (ap (λ (t : Token). t.bare.spelling) (sym c.hand-token.ensures.token) ∙ same-bytes c.hand-token.result.text.now c.args.sample.now c.if-ne.ensures) c.step.ensures
