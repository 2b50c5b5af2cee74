use Rattle.std.proofs.Common.{sym, ap, ◌∙◌}
use Rattle.graphql_reading.specs.grammar.Tests.{keyword}
use Rattle.graphql_report.specs.declared.phrases.Keyword.{Keyword}
use Rattle.graphql_report.specs.inner.Left.{keyword_text}
use Rattle.graphql_report.proofs.steps.is_at_word.Goals as goal

pub returns-in-Directive : goal.returns-in-Directive
returns-in-Directive c = c.is_at_keyword.ensures ∙ ap (λ (x : Keyword). keyword (keyword_text x) c.args.parser.now.hand.bare) (sym c.in-Directive.is)

pub returns-in-Enum : goal.returns-in-Enum
returns-in-Enum c = c.is_at_keyword-in-Enum.ensures ∙ ap (λ (x : Keyword). keyword (keyword_text x) c.args.parser.now.hand.bare) (sym c.in-Enum.is)

pub returns-in-Extend : goal.returns-in-Extend
returns-in-Extend c = c.is_at_keyword-in-Extend.ensures ∙ ap (λ (x : Keyword). keyword (keyword_text x) c.args.parser.now.hand.bare) (sym c.in-Extend.is)

pub returns-in-Fragment : goal.returns-in-Fragment
returns-in-Fragment c = c.is_at_keyword-in-Fragment.ensures ∙ ap (λ (x : Keyword). keyword (keyword_text x) c.args.parser.now.hand.bare) (sym c.in-Fragment.is)

pub returns-in-Implements : goal.returns-in-Implements
returns-in-Implements c = c.is_at_keyword-in-Implements.ensures ∙ ap (λ (x : Keyword). keyword (keyword_text x) c.args.parser.now.hand.bare) (sym c.in-Implements.is)

pub returns-in-Input : goal.returns-in-Input
returns-in-Input c = c.is_at_keyword-in-Input.ensures ∙ ap (λ (x : Keyword). keyword (keyword_text x) c.args.parser.now.hand.bare) (sym c.in-Input.is)

pub returns-in-Interface : goal.returns-in-Interface
returns-in-Interface c = c.is_at_keyword-in-Interface.ensures ∙ ap (λ (x : Keyword). keyword (keyword_text x) c.args.parser.now.hand.bare) (sym c.in-Interface.is)

pub returns-in-On : goal.returns-in-On
returns-in-On c = c.is_at_keyword-in-On.ensures ∙ ap (λ (x : Keyword). keyword (keyword_text x) c.args.parser.now.hand.bare) (sym c.in-On.is)

pub returns-in-Repeatable : goal.returns-in-Repeatable
returns-in-Repeatable c = c.is_at_keyword-in-Repeatable.ensures ∙ ap (λ (x : Keyword). keyword (keyword_text x) c.args.parser.now.hand.bare) (sym c.in-Repeatable.is)

pub returns-in-Scalar : goal.returns-in-Scalar
returns-in-Scalar c = c.is_at_keyword-in-Scalar.ensures ∙ ap (λ (x : Keyword). keyword (keyword_text x) c.args.parser.now.hand.bare) (sym c.in-Scalar.is)

pub returns-in-Schema : goal.returns-in-Schema
returns-in-Schema c = c.is_at_keyword-in-Schema.ensures ∙ ap (λ (x : Keyword). keyword (keyword_text x) c.args.parser.now.hand.bare) (sym c.in-Schema.is)

pub returns-in-Type : goal.returns-in-Type
returns-in-Type c = c.is_at_keyword-in-Type.ensures ∙ ap (λ (x : Keyword). keyword (keyword_text x) c.args.parser.now.hand.bare) (sym c.in-Type.is)

pub returns-in-Union : goal.returns-in-Union
returns-in-Union c = c.is_at_keyword-in-Union.ensures ∙ ap (λ (x : Keyword). keyword (keyword_text x) c.args.parser.now.hand.bare) (sym c.in-Union.is)
