use Rattle.std.proofs.Common.{List, ◌++◌, [], ◌∷◌, ap, ◌∙◌, string_bytes}
use Rattle.std.proofs.lemmas.Str.{IsUtf8-string_bytes}
use Rattle.graphql_layout.specs.texts.Items.{Item, word}
use Rattle.graphql_layout.proofs.Sheets.{token_added}
use Rattle.graphql_layout.proofs.sheet.Sheet.token.Goals as goal

pub invariant_of-self-2 : goal.invariant_of-self-2
invariant_of-self-2 c =
    let h = c.in_ok-self-inside.ensures in
    let text = c.make_room.new.text in
    rw c.of.ensures (token_added (string_bytes text) (string_bytes c.push_str.new.self) c.in_ok-self-inside.field-0 c.args.kind c.args.spelling.now (IsUtf8-string_bytes text) h.ok.sheet c.requires h.room c.in_ok-push_str.ensures.bytes).sheet

pub returns-clause-ok : goal.returns-clause-ok
returns-clause-ok c =
    let h = c.in_ok-self-inside.ensures in
    let text = c.make_room.new.text in
    (token_added (string_bytes text) (string_bytes c.push_str.new.self) c.in_ok-self-inside.field-0 c.args.kind c.args.spelling.now (IsUtf8-string_bytes text) h.ok.sheet c.requires h.room c.in_ok-push_str.ensures.bytes).has
    ∙ ap (λ (l : List Item). l ++ word (record { kind = c.args.kind; spelling = c.args.spelling.now }) ∷ []) (h.ok.has ∙ c.self.view_is)
