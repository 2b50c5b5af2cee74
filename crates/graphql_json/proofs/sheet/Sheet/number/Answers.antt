use Rattle.std.proofs.Common.{rules, IsUtf8, subst, decimal, true, [], ◌∷◌, ◌++◌, refl, ap, sym, ◌∙◌}
use Rattle.json.specs.Token.{number}
use Rattle.graphql_json.proofs.Sheets.{grown, adds}
use Rattle.json.proofs.Printed.Decimals.{IsNumber-decimal}
use Rattle.graphql_json.proofs.Words.{print_number}
use Rattle.graphql_json.proofs.sheet.Sheet.number.Goals as goal

pub invariant_of-self-2 : goal.invariant_of-self-2
invariant_of-self-2 c =
    let s = c.self.inside in
    let d = decimal c.args.number in
    let text = (rw (c.as_bytes.ensures.value, c.format-digits.ensures.text) at c.in_ok-put.ensures) ∙ ap (λ l. s.text.items ++ l) (sym (print_number s.after_value d)) in
    grown s _ c.self.invariant (number d ∷ []) (IsNumber-decimal c.args.number (search rules), subst IsUtf8 (c.as_bytes.ensures.value ∙ c.format-digits.ensures.text) c.as_bytes.ensures.utf8, tt) text refl

pub returns : goal.returns
returns c =
    let s = c.self.inside in
    let d = decimal c.args.number in
    let text = (rw (c.as_bytes.ensures.value, c.format-digits.ensures.text) at c.in_ok-put.ensures) ∙ ap (λ l. s.text.items ++ l) (sym (print_number s.after_value d)) in
    adds s (record s { text = c.put.new.self; after_value = true }) c.self.invariant (number d ∷ []) (IsNumber-decimal c.args.number (search rules), subst IsUtf8 (c.as_bytes.ensures.value ∙ c.format-digits.ensures.text) c.as_bytes.ensures.utf8, tt) text refl c.args.self.now c.self.view_is
