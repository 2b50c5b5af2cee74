use Rattle.std.proofs.Common.{List, ◌++◌, [], ◌∷◌, ap, ◌∙◌, string_bytes}
use Rattle.std.proofs.lemmas.Str.{IsUtf8-string_bytes}
use Rattle.graphql_tokens.specs.declared.lexer.TokenKind.TheVariants.{String}
use Rattle.graphql_layout.specs.texts.Items.{Item, in_quotes, word}
use Rattle.graphql_layout.proofs.Quotes.{quote_held, quoted_ending}
use Rattle.graphql_layout.proofs.Sheets.{opened, token_added}
use Rattle.graphql_layout.proofs.sheet.Sheet.quoted.Goals as goal

pub invariant_of-self-in_err-push_quoted : goal.invariant_of-self-in_err-push_quoted
invariant_of-self-in_err-push_quoted c = (opened (string_bytes c.replace-text.new.dest) (ap (λ t. string_bytes t) c.replace-text.ensures.after ∙ c.new-empty.ensures.bytes)).sheet

pub invariant_of-self-2 : goal.invariant_of-self-2
invariant_of-self-2 c =
    let h = c.in_ok-self-inside.ensures in
    let text = c.make_room.new.text in
    let last = c.in_ok-self-inside.field-0 in
    let quoted = in_quotes c.args.content.now in
    rw (c.of_content.ensures ∙ quoted_ending c.args.content.now)
    (token_added (string_bytes text) (string_bytes c.push_quoted.new.text) last String quoted (IsUtf8-string_bytes text) h.ok.sheet c.requires (quote_held last c.args.content.now ∙ h.room)
    (c.in_ok-push_quoted.ensures ∙ ap (λ t. string_bytes t ++ quoted) c.replace-text.ensures.value)).sheet

pub returns : goal.returns
returns c =
    let h = c.in_ok-self-inside.ensures in
    let text = c.make_room.new.text in
    let last = c.in_ok-self-inside.field-0 in
    let quoted = in_quotes c.args.content.now in
    (token_added (string_bytes text) (string_bytes c.push_quoted.new.text) last String quoted (IsUtf8-string_bytes text) h.ok.sheet c.requires (quote_held last c.args.content.now ∙ h.room)
    (c.in_ok-push_quoted.ensures ∙ ap (λ t. string_bytes t ++ quoted) c.replace-text.ensures.value)).has
    ∙ ap (λ (l : List Item). l ++ word (record { kind = String; spelling = quoted }) ∷ []) (h.ok.has ∙ c.self.view_is)
