use Rattle.std.proofs.Common.{List, ◌++◌, [], ◌∷◌, ap, ◌∙◌, string_bytes}
use Rattle.std.proofs.lemmas.Str.{IsUtf8-string_bytes}
use Rattle.std.specs.Str.{chars}
use Rattle.graphql_layout.specs.texts.Items.{Item, comment}
use Rattle.graphql_layout.proofs.Sheets.{comment_added}
use Rattle.graphql_layout.proofs.sheet.Sheet.comment.Goals as goal

pub invariant_of-self-2 : goal.invariant_of-self-2
invariant_of-self-2 c =
    let h = c.in_ok-self-inside.ensures in
    let text = c.end_comment.new.text in
    (comment_added (string_bytes text) (string_bytes c.push_str.new.self) c.in_ok-self-inside.field-0 c.args.spelling.now (IsUtf8-string_bytes text) h.ok.sheet c.requires h.room c.in_ok-push_str.ensures.bytes).sheet

pub returns-clause-ok : goal.returns-clause-ok
returns-clause-ok c =
    let h = c.in_ok-self-inside.ensures in
    let text = c.end_comment.new.text in
    (comment_added (string_bytes text) (string_bytes c.push_str.new.self) c.in_ok-self-inside.field-0 c.args.spelling.now (IsUtf8-string_bytes text) h.ok.sheet c.requires h.room c.in_ok-push_str.ensures.bytes).has
    ∙ ap (λ (l : List Item). l ++ comment (chars c.args.spelling.now) ∷ []) (h.ok.has ∙ c.self.view_is)
