use Rattle.std.proofs.Common.{sym, ap, ◌∙◌}
use Rattle.graphql_reading.specs.grammar.Tests.{punct}
use Rattle.graphql_report.specs.declared.phrases.Mark.{Mark}
use Rattle.graphql_report.specs.inner.Left.{mark_text}
use Rattle.graphql_report.proofs.steps.is_at.Goals as goal

pub returns-in-Bang : goal.returns-in-Bang
returns-in-Bang c = c.is_at_punct.ensures ∙ ap (λ (x : Mark). punct (mark_text x) c.args.parser.now.hand.bare) (sym c.in-Bang.is)

pub returns-in-And : goal.returns-in-And
returns-in-And c = c.is_at_punct-in-And.ensures ∙ ap (λ (x : Mark). punct (mark_text x) c.args.parser.now.hand.bare) (sym c.in-And.is)

pub returns-in-OpenParen : goal.returns-in-OpenParen
returns-in-OpenParen c = c.is_at_punct-in-OpenParen.ensures ∙ ap (λ (x : Mark). punct (mark_text x) c.args.parser.now.hand.bare) (sym c.in-OpenParen.is)

pub returns-in-CloseParen : goal.returns-in-CloseParen
returns-in-CloseParen c = c.is_at_punct-in-CloseParen.ensures ∙ ap (λ (x : Mark). punct (mark_text x) c.args.parser.now.hand.bare) (sym c.in-CloseParen.is)

pub returns-in-Dots : goal.returns-in-Dots
returns-in-Dots c = c.is_at_punct-in-Dots.ensures ∙ ap (λ (x : Mark). punct (mark_text x) c.args.parser.now.hand.bare) (sym c.in-Dots.is)

pub returns-in-Colon : goal.returns-in-Colon
returns-in-Colon c = c.is_at_punct-in-Colon.ensures ∙ ap (λ (x : Mark). punct (mark_text x) c.args.parser.now.hand.bare) (sym c.in-Colon.is)

pub returns-in-Equals : goal.returns-in-Equals
returns-in-Equals c = c.is_at_punct-in-Equals.ensures ∙ ap (λ (x : Mark). punct (mark_text x) c.args.parser.now.hand.bare) (sym c.in-Equals.is)

pub returns-in-At : goal.returns-in-At
returns-in-At c = c.is_at_punct-in-At.ensures ∙ ap (λ (x : Mark). punct (mark_text x) c.args.parser.now.hand.bare) (sym c.in-At.is)

pub returns-in-OpenBracket : goal.returns-in-OpenBracket
returns-in-OpenBracket c = c.is_at_punct-in-OpenBracket.ensures ∙ ap (λ (x : Mark). punct (mark_text x) c.args.parser.now.hand.bare) (sym c.in-OpenBracket.is)

pub returns-in-CloseBracket : goal.returns-in-CloseBracket
returns-in-CloseBracket c = c.is_at_punct-in-CloseBracket.ensures ∙ ap (λ (x : Mark). punct (mark_text x) c.args.parser.now.hand.bare) (sym c.in-CloseBracket.is)

pub returns-in-OpenBrace : goal.returns-in-OpenBrace
returns-in-OpenBrace c = c.is_at_punct-in-OpenBrace.ensures ∙ ap (λ (x : Mark). punct (mark_text x) c.args.parser.now.hand.bare) (sym c.in-OpenBrace.is)

pub returns-in-Bar : goal.returns-in-Bar
returns-in-Bar c = c.is_at_punct-in-Bar.ensures ∙ ap (λ (x : Mark). punct (mark_text x) c.args.parser.now.hand.bare) (sym c.in-Bar.is)

pub returns-in-CloseBrace : goal.returns-in-CloseBrace
returns-in-CloseBrace c = c.is_at_punct-in-CloseBrace.ensures ∙ ap (λ (x : Mark). punct (mark_text x) c.args.parser.now.hand.bare) (sym c.in-CloseBrace.is)
