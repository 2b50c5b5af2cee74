use Rattle.std.proofs.Common.{true, [], ◌∷◌, ◌++◌, refl, ap, sym, ◌∙◌}
use Rattle.json.specs.Token.{string}
use Rattle.json.proofs.Printed.Utf8.{IsUtf8-quoted}
use Rattle.graphql_json.proofs.Sheets.{grown, adds}
use Rattle.graphql_json.proofs.Words.{print_escaped}
use Rattle.graphql_json.proofs.sheet.Sheet.escaped.Goals as goal

pub invariant_of-self-2 : goal.invariant_of-self-2
invariant_of-self-2 c =
    let s = c.self.inside in
    let k = c.args.text.now in
    let text = (rw c.as_bytes.ensures.value at c.in_ok-put_escaped.ensures) ∙ ap (λ l. s.text.items ++ l) (sym (print_escaped s.after_value k)) in
    grown s _ c.self.invariant (string k ∷ []) (tt, IsUtf8-quoted k c.utf8.text, tt) text refl

pub returns : goal.returns
returns c =
    let s = c.self.inside in
    let k = c.args.text.now in
    let text = (rw c.as_bytes.ensures.value at c.in_ok-put_escaped.ensures) ∙ ap (λ l. s.text.items ++ l) (sym (print_escaped s.after_value k)) in
    adds s (record s { text = c.put_escaped.new.buffer; after_value = true }) c.self.invariant (string k ∷ []) (tt, IsUtf8-quoted k c.utf8.text, tt) text refl c.args.self.now c.self.view_is
