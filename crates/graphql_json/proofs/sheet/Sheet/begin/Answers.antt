use Rattle.std.proofs.Common.{codes, true, ◌∷◌, ◌++◌, refl, ap, sym, ◌∙◌}
use Rattle.json.specs.Token.{begin_object, key, string}
use Rattle.graphql_json.proofs.Sheets.{grown, adds}
use Rattle.graphql_json.specs.inner.Written.{shown_tokens}
use Rattle.json.proofs.Printed.Utf8.{IsUtf8-are_ascii, IsUtf8-key, IsUtf8-quoted}
use Rattle.graphql_json.proofs.Steps.{as_tokens}
use Rattle.graphql_json.proofs.Sheets.{shown_writable, shown_ends}
use Rattle.graphql_json.proofs.Words.{escape_of_word, print_opening}
use Rattle.graphql_json.proofs.sheet.Sheet.begin.Goals as goal

pub invariant_of-self-2 : goal.invariant_of-self-2
invariant_of-self-2 c =
    let s = c.self.inside in
    let k = c.args.kind.now in
    let text = (rw c.as_bytes.ensures.value at c.in_ok-put_opening.ensures) ∙ ap (λ l. s.text.items ++ l) (sym (print_opening s.after_value k c.shown.result (escape_of_word k c.requires))) in
    grown s _ c.self.invariant (begin_object ∷ key (codes "kind") ∷ string k ∷ shown_tokens c.shown.result) (tt, IsUtf8-are_ascii _ refl, (tt, IsUtf8-key (codes "kind") (IsUtf8-are_ascii _ refl), (tt, IsUtf8-quoted k c.utf8.kind, shown_writable c.shown.result c.shown.ensures.fits))) text (sym (shown_ends c.shown.result))

pub returns : goal.returns
returns c =
    let s = c.self.inside in
    let k = c.args.kind.now in
    let text = (rw c.as_bytes.ensures.value at c.in_ok-put_opening.ensures) ∙ ap (λ l. s.text.items ++ l) (sym (print_opening s.after_value k c.shown.result (escape_of_word k c.requires))) in
    as_tokens (ap (λ ts. begin_object ∷ key (codes "kind") ∷ string k ∷ ts) c.shown.ensures.place) (adds s (record s { text = c.put_opening.new.self; after_value = true }) c.self.invariant (begin_object ∷ key (codes "kind") ∷ string k ∷ shown_tokens c.shown.result) (tt, IsUtf8-are_ascii _ refl, (tt, IsUtf8-key (codes "kind") (IsUtf8-are_ascii _ refl), (tt, IsUtf8-quoted k c.utf8.kind, shown_writable c.shown.result c.shown.ensures.fits))) text (sym (shown_ends c.shown.result)) c.args.self.now c.self.view_is)
