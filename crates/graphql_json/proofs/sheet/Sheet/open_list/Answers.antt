use Rattle.std.proofs.Common.{false, [], ◌∷◌, ◌++◌, refl, ap, sym, ◌∙◌}
use Rattle.json.specs.Token.{key, begin_array}
use Rattle.json.proofs.Printed.Utf8.{IsUtf8-key, IsUtf8-are_ascii}
use Rattle.graphql_json.proofs.Sheets.{grown, adds}
use Rattle.graphql_json.proofs.Words.{escape_of_word, print_list}
use Rattle.graphql_json.proofs.sheet.Sheet.open_list.Goals as goal

pub invariant_of-self-2 : goal.invariant_of-self-2
invariant_of-self-2 c =
    let s = c.self.inside in
    let k = c.args.key.now in
    let text = rw c.as_bytes.ensures.value at c.in_ok-put.ensures ∙ ap (λ l. s.text.items ++ l) (sym (print_list s.after_value k (escape_of_word k c.requires))) in
    grown s _ c.self.invariant (key k ∷ begin_array ∷ []) ((tt, IsUtf8-key k c.utf8.key, (tt, IsUtf8-are_ascii _ refl, tt))) text refl

pub returns : goal.returns
returns c =
    let s = c.self.inside in
    let k = c.args.key.now in
    let text = rw c.as_bytes.ensures.value at c.in_ok-put.ensures ∙ ap (λ l. s.text.items ++ l) (sym (print_list s.after_value k (escape_of_word k c.requires))) in
    adds s (record s { text = c.put.new.self; after_value = false }) c.self.invariant (key k ∷ begin_array ∷ []) ((tt, IsUtf8-key k c.utf8.key, (tt, IsUtf8-are_ascii _ refl, tt))) text refl c.args.self.now c.self.view_is
