use Rattle.std.proofs.Common.{ap, sym, ◌∙◌, subst, arith}
use Rattle.graphql_tokens.specs.declared.lexer.TokenKind.TheVariants.{String}
use Rattle.graphql_tokens.specs.tokens.Proper.{Spells}
use Rattle.graphql_tokens.specs.tokens.Token.{Bare}
use Rattle.graphql_layout.specs.texts.Items.{in_quotes}
use Rattle.graphql_printer.specs.inner.Shown.{by_value, quoted}
use Rattle.graphql_printer.specs.inner.Words.{loose_tokens}
use Rattle.graphql_printer.proofs.ShownStrings.{string_spells}
use Rattle.graphql_printer.proofs.Spellings.{plain_spells, same_string}
use Rattle.graphql_printer.proofs.Writing.{no_rest, written_ok}
use Rattle.graphql_printer.proofs.writer.Writer.string.Goals as goal

pub quoted-requires : goal.quoted-requires
quoted-requires c = plain_spells c.args.text.now c.utf8.text (sym c.is_plain.ensures ∙ c.if-is_plain.true)

pub returns-then-is_plain : goal.returns-then-is_plain
returns-then-is_plain c =
    let rest = c.self.inside.rest in
    let none = no_rest rest.items _ (omega (arith, rest.ok.0)) (sym c.is_empty.ensures ∙ c.if-is_empty.true) in
    let text = c.args.text.now in
    let same = same_string text c.utf8.text (sym c.is_plain.ensures ∙ c.if-is_plain.true) in
    let other : Bare = record { kind = String; spelling = in_quotes text } in
    written_ok c.quoted.result c.self.inside.sheet c.quoted.new.self (loose_tokens rest.items) c.args.self.now (quoted text) other
    none c.quoted.ensures (ap (λ s. by_value (record { kind = String; spelling = s })) (sym same)) c.self.view_is

pub token-requires : goal.token-requires
token-requires c = subst (Spells String) (sym (c.deref.ensures ∙ c.in_ok-spelling.ensures)) (string_spells c.args.text.now c.utf8.text)
