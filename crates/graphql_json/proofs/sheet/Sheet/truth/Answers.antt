use Rattle.std.proofs.Common.{true, [], ◌∷◌, ◌++◌, refl, ap, sym, ◌∙◌}
use Rattle.json.specs.Token.{boolean}
use Rattle.graphql_json.proofs.Sheets.{grown, adds}
use Rattle.json.proofs.Printed.Utf8.{IsUtf8-boolean}
use Rattle.graphql_json.proofs.Words.{print_boolean}
use Rattle.graphql_json.proofs.sheet.Sheet.truth.Goals as goal

pub invariant_of-self-2 : goal.invariant_of-self-2
invariant_of-self-2 c =
    let s = c.self.inside in
    let text = (rw (c.as_bytes.ensures.value, c.truth_word.ensures) at c.in_ok-put.ensures) ∙ ap (λ l. s.text.items ++ l) (sym (print_boolean s.after_value c.args.value)) in
    grown s _ c.self.invariant (boolean c.args.value ∷ []) (tt, IsUtf8-boolean c.args.value, tt) text refl

pub returns : goal.returns
returns c =
    let s = c.self.inside in
    let text = (rw (c.as_bytes.ensures.value, c.truth_word.ensures) at c.in_ok-put.ensures) ∙ ap (λ l. s.text.items ++ l) (sym (print_boolean s.after_value c.args.value)) in
    adds s (record s { text = c.put.new.self; after_value = true }) c.self.invariant (boolean c.args.value ∷ []) (tt, IsUtf8-boolean c.args.value, tt) text refl c.args.self.now c.self.view_is
