use Rattle.std.proofs.Common.{List, ◌++◌, [], ◌∷◌, ap, ◌∙◌, string_bytes}
use Rattle.std.proofs.lemmas.Str.{IsUtf8-string_bytes}
use Rattle.graphql_tokens.specs.declared.lexer.TokenKind.TheVariants.{Block}
use Rattle.graphql_layout.specs.texts.Blocks.{spelled}
use Rattle.graphql_layout.specs.texts.Items.{Item, word}
use Rattle.graphql_layout.proofs.QuotedBlocks.{held_same}
use Rattle.graphql_layout.proofs.Sheets.{opened, token_added}
use Rattle.graphql_layout.proofs.sheet.Sheet.block.Goals as goal

pub invariant_of-self-in_err-push_block : goal.invariant_of-self-in_err-push_block
invariant_of-self-in_err-push_block c = (opened (string_bytes c.replace-text.new.dest) (ap (λ t. string_bytes t) c.replace-text.ensures.after ∙ c.new-empty.ensures.bytes)).sheet

pub invariant_of-self-2 : goal.invariant_of-self-2
invariant_of-self-2 c =
    let h = c.in_ok-self-inside.ensures in
    let text = c.make_room.new.text in
    let last = c.in_ok-self-inside.field-0 in
    let block = spelled (record { line_end = c.self.inside.line_end; indent = c.args.indent }) c.args.value.now in
    let is = c.in_ok-push_block.ensures in
    (token_added (string_bytes text) (string_bytes c.push_block.new.out) last Block block (IsUtf8-string_bytes text) h.ok.sheet is.token (held_same last block is.token ∙ h.room)
    (is.written ∙ ap (λ t. string_bytes t ++ block) c.replace-text.ensures.value)).sheet

pub returns : goal.returns
returns c =
    let h = c.in_ok-self-inside.ensures in
    let text = c.make_room.new.text in
    let last = c.in_ok-self-inside.field-0 in
    let block = spelled (record { line_end = c.self.inside.line_end; indent = c.args.indent }) c.args.value.now in
    let is = c.in_ok-push_block.ensures in
    record {
      ok = (
        c.self.inside.line_end,
        (token_added (string_bytes text) (string_bytes c.push_block.new.out) last Block block (IsUtf8-string_bytes text) h.ok.sheet is.token (held_same last block is.token ∙ h.room)
            (is.written ∙ ap (λ t. string_bytes t ++ block) c.replace-text.ensures.value)).has
            ∙ ap (λ (l : List Item). l ++ word (record { kind = Block; spelling = block }) ∷ []) (h.ok.has ∙ c.self.view_is),
      );
    }
