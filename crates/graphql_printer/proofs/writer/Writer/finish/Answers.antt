use Rattle.std.proofs.Common.{sym, ap, ◌++◌, ◌∙◌, arith, string_bytes}
use Rattle.graphql_layout.specs.texts.Items.{words}
use Rattle.graphql_printer.specs.inner.Shown.{by_values}
use Rattle.graphql_printer.specs.inner.Words.{loose_tokens}
use Rattle.graphql_printer.proofs.SpelledTexts.{laid_out_keeps, badly_keeps}
use Rattle.graphql_printer.proofs.Writing.{no_rest, some_rest}
use Rattle.graphql_printer.proofs.writer.Writer.finish.Goals as goal

pub returns-then-is_empty : goal.returns-then-is_empty
returns-then-is_empty c bs spelled e =
    let rest = c.self.inside.rest in
    let none = no_rest rest.items _ (omega (arith, rest.ok.0)) (sym c.is_empty.ensures ∙ c.if-is_empty.true) in
    let tokens = words c.self.inside.sheet in
    laid_out_keeps tokens (string_bytes c.finish-text.result) c.finish-text.ensures.tokens bs spelled (ap (λ l. by_values (tokens ++ l)) (sym none) ∙ c.self.view_is ∙ e)

pub returns : goal.returns
returns c =
    let rest = c.self.inside.rest in
    let some = some_rest rest.items _ (omega (arith, rest.ok.0)) (sym c.is_empty.ensures ∙ c.if-is_empty.false) in
    badly_keeps c.loosened.result (words c.self.inside.sheet) (loose_tokens rest.items) c.args.self c.self.view_is c.self.invariant some
