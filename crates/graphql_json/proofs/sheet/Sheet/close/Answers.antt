use Rattle.std.proofs.Common.{[], ◌∷◌, ◌++◌, true, refl, ap, sym, ◌∙◌}
use Rattle.json.specs.Token.{end_object}
use Rattle.json.proofs.Printed.Utf8.{IsUtf8-are_ascii}
use Rattle.graphql_json.proofs.Sheets.{grown, adds}
use Rattle.graphql_json.proofs.Words.{print_close}
use Rattle.graphql_json.proofs.sheet.Sheet.close.Goals as goal

pub invariant_of-self-2 : goal.invariant_of-self-2
invariant_of-self-2 c =
    let s = c.self.inside in
    let text = ap (λ l. s.text.items ++ l) (sym (print_close s.after_value)) in
    grown s _ c.self.invariant (end_object ∷ []) ((tt, IsUtf8-are_ascii _ refl, tt)) (c.in_ok-put.ensures ∙ text) refl

pub returns : goal.returns
returns c =
    let s = c.self.inside in
    let text = ap (λ l. s.text.items ++ l) (sym (print_close s.after_value)) in
    adds s (record s { text = c.put.new.self; after_value = true }) c.self.invariant (end_object ∷ []) ((tt, IsUtf8-are_ascii _ refl, tt)) (c.in_ok-put.ensures ∙ text) refl c.args.self.now c.self.view_is
