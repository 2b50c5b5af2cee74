use Rattle.std.proofs.Common.{codes, true, [], ◌∷◌, ◌++◌, refl, ap, sym, ◌∙◌}
use Rattle.json.specs.Token.{key, string, end_object}
use Rattle.graphql_json.proofs.Sheets.{grown, adds}
use Rattle.std.proofs.lemmas.Bool.{OnTrue_at}
use Rattle.json.proofs.Printed.Utf8.{IsUtf8-are_ascii, IsUtf8-key, IsUtf8-quoted}
use Rattle.graphql_json.proofs.Words.{print_last_text}
use Rattle.graphql_json.proofs.sheet.Sheet.last_text.Goals as goal

pub invariant_of-self-then-branch : goal.invariant_of-self-then-branch
invariant_of-self-then-branch c =
    let s = c.self.inside in
    let k = c.args.text.now in
    let put = rw c.as_bytes.ensures.value at (OnTrue_at c.if-branch.true c.in_ok-put_plain.ensures.0) in
    let text = put.0 ∙ ap (λ l. s.text.items ++ l) (sym (print_last_text s.after_value k put.1)) in
    grown s _ c.self.invariant (key (codes "value") ∷ string k ∷ end_object ∷ []) (tt, IsUtf8-key (codes "value") (IsUtf8-are_ascii _ refl), (tt, IsUtf8-quoted k c.utf8.text, (tt, IsUtf8-are_ascii _ refl, tt))) text refl

pub returns-then-branch : goal.returns-then-branch
returns-then-branch c =
    let s = c.self.inside in
    let k = c.args.text.now in
    let put = rw c.as_bytes.ensures.value at (OnTrue_at c.if-branch.true c.in_ok-put_plain.ensures.0) in
    let text = put.0 ∙ ap (λ l. s.text.items ++ l) (sym (print_last_text s.after_value k put.1)) in
    adds s (record s { text = c.put_plain.new.self; after_value = true }) c.self.invariant (key (codes "value") ∷ string k ∷ end_object ∷ []) (tt, IsUtf8-key (codes "value") (IsUtf8-are_ascii _ refl), (tt, IsUtf8-quoted k c.utf8.text, (tt, IsUtf8-are_ascii _ refl, tt))) text refl c.args.self.now c.self.view_is
