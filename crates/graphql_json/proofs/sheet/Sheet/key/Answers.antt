use Rattle.std.proofs.Common.{false, [], ◌∷◌, ◌++◌, refl, ap, sym, ◌∙◌}
use Rattle.json.specs.Token.{key}
use Rattle.json.proofs.Printed.Utf8.{IsUtf8-key}
use Rattle.graphql_json.proofs.Sheets.{grown, adds}
use Rattle.graphql_json.proofs.Words.{escape_of_word, print_key}
use Rattle.graphql_json.proofs.sheet.Sheet.key.Goals as goal

pub invariant_of-self-2 : goal.invariant_of-self-2
invariant_of-self-2 c =
    let s = c.self.inside in
    let k = c.args.key.now in
    let put = rw c.as_bytes.ensures.value at c.in_ok-put.ensures in
    let text = put ∙ ap (λ l. s.text.items ++ l) (sym (print_key s.after_value k (escape_of_word k c.requires))) in
    grown s _ c.self.invariant (key k ∷ []) (tt, IsUtf8-key k c.utf8.key, tt) text refl

pub returns : goal.returns
returns c =
    let s = c.self.inside in
    let k = c.args.key.now in
    let put = rw c.as_bytes.ensures.value at c.in_ok-put.ensures in
    let text = put ∙ ap (λ l. s.text.items ++ l) (sym (print_key s.after_value k (escape_of_word k c.requires))) in
    adds s (record s { text = c.put.new.self; after_value = false }) c.self.invariant (key k ∷ []) (tt, IsUtf8-key k c.utf8.key, tt) text refl c.args.self.now c.self.view_is
