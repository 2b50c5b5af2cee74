use Rattle.std.proofs.Common.{◌≡◌, ℕ, ◌/◌, ◌%◌, ◌<◌, true, cond, None, List, [], ◌∷◌, ◌++◌, codes, append-nil, encode_utf8_all, refl, sym, ap, ap₂, ◌∙◌, lt-ltb}
use lib.Utf8.{encode}
use Rattle.std.proofs.Output.{has_written_styled_of_eq, has_written_styled_append}
use Rattle.std.specs.Char.{digit_char}
use Rattle.graphql_syntax.specs.trees.ValueText.{unit_with, unit_for, escape_letter}
use Rattle.graphql_syntax.proofs.value.text.write_unit.Goals as goal

control : (c code high low : ℕ) → c < 32 → code ≡ c → high ≡ digit_char (code / 16) → low ≡ digit_char (code % 16) → escape_letter c ≡ None →
    codes "\\u00" ++ (encode high ++ encode low) ≡ encode_utf8_all (unit_for c)
unfolding encode
control c code high low small same is-high is-low none =
    ap₂ (λ (x y : ℕ). codes "\\u00" ++ (encode x ++ encode y)) (is-high ∙ ap (λ n. digit_char (n / 16)) same) (is-low ∙ ap (λ n. digit_char (n % 16)) same) ∙
    ap (λ (x : List ℕ). codes "\\u00" ++ (encode (digit_char (c / 16)) ++ x)) (sym (append-nil (encode (digit_char (c % 16))))) ∙
    ap (λ b. encode_utf8_all (cond b (codes "\\u00" ++ (digit_char (c / 16) ∷ digit_char (c % 16) ∷ [])) (c ∷ []))) (sym (lt-ltb c 32 small)) ∙
    ap (λ o. encode_utf8_all (unit_with c o)) (sym none)

pub returns-in-Some : goal.returns-in-Some
unfolding encode
returns-in-Some g c flush ok =
    let slash = c.in_ok-write_char.ensures.styled flush (refl {a = true}) in
    let letter = c.write_char-in-Some.ensures.styled slash.flush ok in
    has_written_styled_of_eq _ _ _ _ _ (ap (λ (x : List ℕ). 92 ∷ x) (sym (append-nil (encode c.in-Some.letter))) ∙ ap (λ o. encode_utf8_all (unit_with c.args.c o)) c.in-Some.ensures)
    (has_written_styled_append _ _ _ _ _ _ slash letter)

pub returns-then-c-lt32 : goal.returns-then-c-lt32
returns-then-c-lt32 g c flush ok =
    let front = c.in_ok-write_str.ensures.styled flush (refl {a = true}) in
    let high = c.in_ok-write_char-2.ensures.styled front.flush (refl {a = true}) in
    let low = c.write_char-then-c-lt32-2.ensures.styled high.flush ok in
    let none : escape_letter c.args.c ≡ None = cc in
    has_written_styled_of_eq _ _ _ _ _ (control c.args.c c.from-code.result _ _ c.if-c-lt32.true c.from-code.ensures c.hex_digit.ensures c.hex_digit-then-c-lt32.ensures none)
    (has_written_styled_append _ _ _ _ _ _ front (has_written_styled_append _ _ _ _ _ _ high low))
