use Rattle.std.proofs.Common.{List, ◌++◌, [], ◌∷◌, sym, ap, ◌∙◌, arith}
use Rattle.std.proofs.lemmas.Result.{on_ok_weaker}
use Rattle.graphql_tokens.specs.declared.lexer.TokenKind.TheVariants.{Block}
use Rattle.graphql_tokens.specs.tokens.Token.{Bare}
use Rattle.graphql_layout.specs.declared.line_ends.LineBreak.{LineBreak}
use Rattle.graphql_layout.specs.texts.Blocks.{feed, spelled}
use Rattle.graphql_printer.specs.inner.Shown.{by_values}
use Rattle.graphql_printer.specs.inner.Words.{loose_tokens}
use Rattle.graphql_printer.proofs.Writing.{no_rest, on_sheet, same_block}
use Rattle.graphql_printer.proofs.writer.Writer.block.Goals as goal

pub returns : goal.returns
returns c =
    let rest = c.self.inside.rest in
    let none = no_rest rest.items _ (omega (arith, rest.ok.0)) (sym c.is_empty.ensures ∙ c.if-not-is_empty.false) in
    let text = c.args.text.now in
    let b : Bare = record { kind = Block; spelling = spelled (feed 0) text } in
    on_ok_weaker c.block.result (λ e.
    let between : LineBreak = record { line_end = e.0; indent = c.saturating_mul.result } in
    on_sheet c.self.inside.sheet c.block.new.self (loose_tokens rest.items) b (record { kind = Block; spelling = spelled between text }) none e.1 (same_block text between c.utf8.text c.requires)
    ∙ ap (λ (l : List Bare). l ++ by_values (b ∷ [])) c.self.view_is) c.block.ensures.ok
