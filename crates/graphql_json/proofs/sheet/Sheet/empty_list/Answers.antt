use Rattle.std.proofs.Common.{true, [], ◌∷◌, ◌++◌, refl, ap, sym, ◌∙◌}
use Rattle.json.specs.Token.{key, begin_array, end_array}
use Rattle.graphql_json.proofs.Sheets.{grown, adds}
use Rattle.json.proofs.Printed.Utf8.{IsUtf8-are_ascii, IsUtf8-key}
use Rattle.graphql_json.proofs.Words.{escape_of_word, print_empty}
use Rattle.graphql_json.proofs.sheet.Sheet.empty_list.Goals as goal

pub invariant_of-self-2 : goal.invariant_of-self-2
invariant_of-self-2 c =
    let s = c.self.inside in
    let k = c.args.key.now in
    let text = (rw c.as_bytes.ensures.value at c.in_ok-put.ensures) ∙ ap (λ l. s.text.items ++ l) (sym (print_empty s.after_value k (escape_of_word k c.requires))) in
    grown s _ c.self.invariant (key k ∷ begin_array ∷ end_array ∷ []) (tt, IsUtf8-key k c.utf8.key, (tt, IsUtf8-are_ascii _ refl, (tt, IsUtf8-are_ascii _ refl, tt))) text refl

pub returns : goal.returns
returns c =
    let s = c.self.inside in
    let k = c.args.key.now in
    let text = (rw c.as_bytes.ensures.value at c.in_ok-put.ensures) ∙ ap (λ l. s.text.items ++ l) (sym (print_empty s.after_value k (escape_of_word k c.requires))) in
    adds s (record s { text = c.put.new.self; after_value = true }) c.self.invariant (key k ∷ begin_array ∷ end_array ∷ []) (tt, IsUtf8-key k c.utf8.key, (tt, IsUtf8-are_ascii _ refl, (tt, IsUtf8-are_ascii _ refl, tt))) text refl c.args.self.now c.self.view_is
